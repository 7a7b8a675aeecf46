-- A full queue of readings that takes one more.
use Rattle.std.proofs.Common.{◌≡◌, ℕ, suc, ◌+◌, ◌-◌, ◌%◌, ◌<◌, ◌≤◌, List, [], ◌∷◌, ◌++◌, length, get_or, take, Some, true, ltb, sym, ap, ap₂, ◌∙◌, subst, ⊎_elim, arith, lt-ltb}
use Rattle.std.specs.List.{slice_get}
use Rattle.std.proofs.lemmas.Option.{slice_get-get_or}
use Rattle.std.proofs.Math.Nat.{mod-eq_of_lt}
use Rattle.std.proofs.lemmas.Bool.{cases_lt}
use Rattle.std.proofs.lemmas.List.{get_or_append_left, get_or-append_right, append-nil, take_all, drop_all}
use Rattle.line.specs.Ring.{held, rest}
use Rattle.line.specs.Parts.{part_of, queue}
use Rattle.line.specs.declared.shape.Part.{Part}
use Rattle.line.proofs.Pieces.{length_part}
use Rattle.line.proofs.Rings.{length_held}
use Rattle.links.specs.declared.curve.Curve.{Curve}
use Rattle.links.specs.Readings.{Full, head_of, readings, back, Next}

-- a queue of all slots, which is full
pub record Whole (p : Part) (at : ℕ) : Type 0 where
  pub start : p.start ≡ 0
  pub size : p.size ≡ 64
  pub head : p.head ≡ at
  pub len : p.len ≡ 64

pub as_held : (s : List ℕ) (p : Part) (head : ℕ) → Whole p head → queue s p ≡ held (part_of 0 64 s) head 64
as_held s p head w =
    ap (λ q. held (part_of q p.size s) p.head p.len) w.start
    ∙ ap (λ q. held (part_of 0 q s) p.head p.len) w.size
    ∙ ap (λ q. held (part_of 0 64 s) q p.len) w.head
    ∙ ap (λ q. held (part_of 0 64 s) head q) w.len

-- once the oldest is gone there is room
pub has_room : (p p' : Part) → p.len ≡ 64 → p.size ≡ 64 → p'.len ≡ p.len - 1 → p'.size ≡ p.size → ltb p'.len p'.size ≡ true
has_room p p' len size len' size' = let l : p'.len < p'.size = omega arith in lt-ltb p'.len p'.size l

-- a head at the end of the slots goes round to the first
round_once : (s : List ℕ) (head : ℕ) → length s ≡ 64 → head ≤ 64 → held s head 64 ≡ held s (head % 64) 64
round_once s head w l = ⊎_elim
    (λ (h : head < 64). ap (λ k. held s k 64) (sym (mod-eq_of_lt h)))
    (λ (h : 64 ≤ head).
    let e : head ≡ 64 = omega arith in
    subst (λ k. held s k 64 ≡ held s (k % 64) 64) (sym e) (ap (take 64) (ap₂ ◌++◌ (drop_all 64 s (omega arith)) (take_all 64 s (omega arith)) ∙ sym (append-nil s))))
    (cases_lt head 64)

-- so a curve whose oldest reading lies in its ring is read from there
pub readings_from : (c : Curve) → c.oldest ≤ 64 → readings c ≡ held (part_of 0 64 c.slots) c.oldest 64
readings_from c inside = sym (round_once (part_of 0 64 c.slots) c.oldest (length_part c.slots 0 64 (omega (arith, c.wide))) inside)

head_inside : (c : Curve) → head_of c ≤ 64
head_inside c = omega arith

pub length_readings : (c : Curve) → length (readings c) ≡ 64
length_readings c =
    let n = length_part c.slots 0 64 (omega (arith, c.wide)) in
    length_held (part_of 0 64 c.slots) (head_of c) (omega (arith, n, head_inside c)) 64 (omega (arith, n))

-- every curve's queue is full
pub full_of : (c : Curve) → Full c
full_of c = record { wide = c.wide; inside = head_inside c; full = length_readings c }

length_rest : (rs : List ℕ) → length rs ≡ 64 → length (rest rs) ≡ 63
length_rest [] e = omega arith
length_rest (r ∷ rs) e = omega arith

rest_at : (rs : List ℕ) (k : ℕ) → length rs ≡ 64 → k < 63 → get_or (rest rs) (63 - (k + 1)) 0 ≡ get_or rs (63 - k) 0
rest_at [] k e h = omega arith
rest_at (r ∷ rs) k e h = let q : 63 - k ≡ suc (63 - (k + 1)) = omega arith in sym (ap (λ z. get_or (r ∷ rs) z 0) q)

-- the readings once the oldest is gone and x has come
pub next_of : (c c' : Curve) (x : ℕ) → c'.oldest ≤ 64 → held (part_of 0 64 c'.slots) c'.oldest 64 ≡ rest (readings c) ++ x ∷ [] → Next c x c'
unfolding back
next_of c c' x inside come = record {
  full = full_of c';
  inside = inside;
  newest = ap (λ (rs : List ℕ). get_or rs 63 0) list ∙ get_or-append_right (rest (readings c)) (x ∷ []) 63 63 0 n (omega arith);
  older = λ k l. ap (λ (rs : List ℕ). get_or rs (63 - (k + 1)) 0) list ∙ get_or_append_left (rest (readings c)) (x ∷ []) 0 (63 - (k + 1)) (omega (arith, n)) ∙ rest_at (readings c) k (length_readings c) l;
}
  where
    list : readings c' ≡ rest (readings c) ++ x ∷ []
    list = readings_from c' inside ∙ come

    n : length (rest (readings c)) ≡ 63
    n = length_rest (readings c) (length_readings c)

pub ago_of : (c : Curve) (k r : ℕ) → k ≤ 63 → Some r ≡ slice_get (readings c) (63 - k) → r ≡ back c k
unfolding back
ago_of c k r l e = let g = slice_get-get_or (readings c) (63 - k) 0 (omega (arith, length_readings c)) in cc
