-- What a call makes of the spots of a queue.
use Rattle.std.proofs.Common.{◌≡◌, ℕ, ◌+◌, ◌-◌, ◌<◌, ◌≤◌, ltb, ◌⊎◌, List, [], ◌∷◌, ◌++◌, length, get_or, set, sym, refl, ap, ◌∙◌, subst, ap₂, inl, inr, arith}
use borrow.Rule.Slice.PartMut.{set_mid_at}
use Rattle.std.proofs.lemmas.List.{length-set, take-set-le, drop-set-lt, get_or-take, get_or-drop}
use Rattle.std.proofs.lemmas.Bool.{cond-true, lt-ltb}
use Rattle.std.proofs.lemmas.Bool.Decides.{nat_tests}
use Rattle.line.specs.Ring.{slot_of, passed}
use Rattle.line.specs.Parts.{Sound, Around, part_of}
use Rattle.line.specs.Spots.{Spots, round, wrote, written, spots_in}
use Rattle.line.specs.declared.shape.Part.{Part}
use Rattle.line.proofs.Pieces.{length_part, part_back, slot_inside}

pub written_append : {X : Type 0} (s : Spots X) (xs ys : List X) → written (written s xs) ys ≡ written s (xs ++ ys)
written_append s [] ys = refl
written_append s (x ∷ xs) ys = written_append (wrote s x) xs ys

tail_take : (size head len : ℕ) → head ≤ size → len ≤ size → round size (slot_of size (passed size head len) (len - 1)) ≡ round size (slot_of size head len)
tail_take size head len h l = grind (arith, nat_tests)

tail_push : (size head len : ℕ) → head ≤ size → len < size → round size (slot_of size head (len + 1)) ≡ round size (slot_of size head len + 1)
tail_push size head len h l = grind (arith, nat_tests)

tail_here : (size head len : ℕ) → head ≤ size → len < size → round size (slot_of size head len) ≡ slot_of size head len
tail_here size head len h l = cond-true (ltb (slot_of size head len) size) _ _ (lt-ltb (slot_of size head len) size (slot_inside size head len h l))

module _ {X : Type 0} (area : List X) (p : Part) (room : p.start + p.size ≤ length area) where
  -- a write to the part is one to the area
  part_set : (at : ℕ) (x : X) → at < p.size → part_of p.start p.size (set area (p.start + at) x) ≡ set (part_of p.start p.size area) at x
  part_set at x l =
      let w = length_part area p.start p.size room in
      ap (part_of p.start p.size) (sym (set_mid_at p.start ((p.start + p.size) - p.start) at area x (omega (arith, w)))) ∙ part_back area p.start p.size room (set (part_of p.start p.size area) at x) (length-set (part_of p.start p.size area) at x)

  pub around_set : (at : ℕ) (x : X) → at < p.size → Around p.start p.size area (set area (p.start + at) x)
  around_set at x l = record { before = take-set-le p.start area (p.start + at) x (omega arith); after = drop-set-lt (p.start + p.size) area (p.start + at) x (omega arith) }

  module _ (sound : Sound p) (p' : Part) (start : p'.start ≡ p.start) (size : p'.size ≡ p.size) where
    pub spots_take : p'.head ≡ passed p.size p.head p.len → p'.len ≡ p.len - 1 → spots_in area p' ≡ spots_in area p
    spots_take h l = ap₂ (λ s n. record { slots = s; tail = n })
        (ap₂ (λ a n. part_of a n area) start size)
        (rw (size, h, l) (tail_take p.size p.head p.len sound.inside sound.fits))

    pub spots_push : (x : X) → p.len < p.size → p'.head ≡ p.head → p'.len ≡ p.len + 1 → spots_in (set area (p.start + slot_of p.size p.head p.len) x) p' ≡ wrote (spots_in area p) x
    spots_push x few h l =
        let at = slot_of p.size p.head p.len in
        let here = tail_here p.size p.head p.len sound.inside few in
        ap₂ (λ s n. record { slots = s; tail = n })
        (ap₂ (λ a n. part_of a n (set area (p.start + at) x)) start size ∙ part_set at x (slot_inside p.size p.head p.len sound.inside few) ∙ ap (λ k. set (part_of p.start p.size area) k x) (sym here))
        (rw (size, h, l) (tail_push p.size p.head p.len sound.inside few) ∙ ap₂ (λ n k. round n (k + 1)) (sym (length_part area p.start p.size room)) (sym here))

pub around_same : {X : Type 0} (start size : ℕ) (area : List X) → Around start size area area
around_same start size area = record { before = refl; after = refl }

-- a slot outside the part that changed is as it was
pub outside : {X : Type 0} (start size : ℕ) (old new : List X) → Around start size old new → (q : ℕ) (d : X) → (q < start) ⊎ (start + size ≤ q) → get_or new q d ≡ get_or old q d
outside start size old new a q d (inl l) = sym (get_or-take start new q d l) ∙ ap (λ z. get_or z q d) a.before ∙ get_or-take start old q d l
outside start size old new a q d (inr l) =
    let e : (start + size) + (q - (start + size)) ≡ q = omega arith in
    let n = q - (start + size) in
    subst (λ k. get_or new k d ≡ get_or old k d) e (sym (get_or-drop (start + size) new n d) ∙ ap (λ z. get_or z n d) a.after ∙ get_or-drop (start + size) old n d)

-- the first entry of an empty queue that starts at its first slot will lie there
pub tail_fresh : (size : ℕ) → round size (slot_of size 0 0) ≡ 0
tail_fresh size = grind (arith, nat_tests)
