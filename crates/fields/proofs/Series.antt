-- The words of a line, taken one by one, against what is wanted of each. Assumes nothing.
use Rattle.std.proofs.Common.{◌≡◌, ℕ, ◌+◌, ◌<◌, ◌≤◌, eqb, leb, List, [], ◌∷◌, ◌++◌, map, length, get_or, take, drop, set, Some, None, Ok, Err, Option, Result, decimal, sym, refl, ap, ◌∙◌, subst, inl, inr, ⊎_elim, arith, MatchOption, MatchResult}
use Rattle.std.proofs.lemmas.Fmt.{decimal_injective}
use Rattle.std.proofs.lemmas.List.{append_assoc, take_more_set, map_push, map_more, take-map, length-map, drop_more, get_or-map}
use Rattle.std.proofs.lemmas.Bool.{eq-eqb, ne_eqb, le-leb, lt-leb, cond-true, cond-false, cases_eq, cases_lt}
use Rattle.words.specs.Numbers.{IsNumberOf}
use Rattle.words.specs.declared.position.Position.{Position}
use Rattle.words.specs.Lines.{Spot, line, words, words_at, end_at}
use Rattle.words.specs.Tables.{First}
use Rattle.words.specs.Texts.{texts}
use Rattle.words.specs.Faults.{position}
use Rattle.words.specs.Tokens.{Taken, spot_of, at_of}
use Rattle.words.specs.declared.word.Word.{Word}
use Rattle.words.specs.declared.word.Word.TheVariants.{Name, Number}
use Rattle.words.proofs.Cuts.{words_space, words_other, grow}
use Rattle.rows.specs.Rows.{Field, number, rule, written}
use Rattle.rows.specs.Wants.{Want, between, Allows, Allowed, Fits, Unfit}
use Rattle.rows.specs.declared.fault.RowFault.{RowFault}
use Rattle.rows.specs.declared.fault.RowFault.TheVariants.{Value}
use Rattle.fields.specs.declared.fields.Range.{Range}
use Rattle.fields.specs.Taking.{want, numbered, left_of}

no_fit : (t : List ℕ) (v lo hi : ℕ) → t ≡ decimal v → v < 65536 → hi < 65536 → ((lo ≤ v) × (v ≤ hi) → ⊥) → Fits (between lo hi) t → ⊥
no_fit t v lo hi e small top out (number n, is, ranged) =
    let low = ranged.0 in
    let high = ranged.1 in
    let same = decimal_injective n v (omega arith) (omega arith) (sym is ∙ e) in
    out (omega arith, omega arith)
no_fit t v lo hi e small top out (rule r, is, none) = none

name_no_fit : (t : List ℕ) (lo hi : ℕ) → hi < 65536 → ((n : ℕ) → n < 65536 → t ≡ decimal n → ⊥) → Fits (between lo hi) t → ⊥
name_no_fit t lo hi top name (number n, is, ranged) = let high = ranged.1 in name n (omega arith) is
name_no_fit t lo hi top name (rule r, is, none) = none

-- the number that a word is, if it is in the range
-- where a word stands, told by its spot
pub stands_at : (w : Word) (a : Position) → at_of w ≡ a → at_of w ≡ position a.line (spot_of w).place
stands_at (Name text at) a e = e ∙ ap (position a.line) (sym (ap (λ (x : Position). x.place) e))
stands_at (Number text value at) a e = e ∙ ap (position a.line) (sym (ap (λ (x : Position). x.place) e))

abbrev pub Fitted : Range → Position → Option ℕ → Result ℕ RowFault → Type 0
Fitted r a o answer =
    MatchResult answer
    (λ v. (o ≡ Some v) × ((r.low ≤ v) × (v ≤ r.high)))
    (λ f. (f ≡ Value a) × MatchOption o (Unit {0}) (λ v. (r.low ≤ v) × (v ≤ r.high) → ⊥))

pub fitted : (t : List ℕ) (r : Range) (a : Position) (o : Option ℕ) (answer : Result ℕ RowFault) (b : Position) → a ≡ b → r.high < 65536 → IsNumberOf o t → Fitted r a o answer → MatchResult answer (λ n. (t ≡ decimal n) × Allows (want r) (number n)) (λ f. (f ≡ Value b) × (Fits (want r) t → ⊥))
fitted t r a (Some n) (Ok v) b at top is f = let same : n ≡ v = cc in (is.0 ∙ ap decimal same, f.1)
fitted t r a None (Ok v) b at top is f = let z : ◌≡◌ {A = ℕ} 0 1 = cc in absurd (omega arith)
fitted t r a (Some n) (Err e) b at top is f = (f.0 ∙ ap Value at, no_fit t n r.low r.high is.0 is.1 top f.1)
fitted t r a None (Err e) b at top is f = (f.0 ∙ ap Value at, name_no_fit t r.low r.high top is)

-- each word stands at p or behind it
abbrev AllFrom : ℕ → List Spot → Type 0
AllFrom p [] = Unit {0}
AllFrom p (w ∷ ws) = (p ≤ w.place) × AllFrom p ws

all_on : (p : ℕ) (ws : List Spot) → AllFrom (p + 1) ws → AllFrom p ws
all_on p [] h = tt
all_on p (w ∷ ws) h = (omega (arith, h.0), all_on p ws h.1)

all_grow : (p c : ℕ) (ws : List Spot) → AllFrom (p + 1) ws → AllFrom p (grow p c ws)
all_grow p c [] h = tt
all_grow p c (w ∷ ws) h = (omega arith, all_on p ws h.1)

all_from : (p : ℕ) (bs : List ℕ) → AllFrom p (words p bs)
all_from p [] = (omega arith, tt)
all_from p (c ∷ cs) =
    ⊎_elim
    (λ is. subst (AllFrom p) (sym (words_space p c cs is)) (omega arith, all_on p (words (p + 1) cs) (all_from (p + 1) cs)))
    (λ ne. subst (AllFrom p) (sym (words_other p c cs ne)) (all_grow p c (words (p + 1) cs) (all_from (p + 1) cs)))
    (cases_eq c 32)

unfit_from : (p k : ℕ) (rs : List Want) (ws : List Spot) → AllFrom p ws → Unfit rs ws k → p ≤ k
unfit_from p k [] ws a u = absurd u
unfit_from p k (r ∷ rs) [] a u = absurd u
unfit_from p k (r ∷ rs) (w ∷ ws) a u = ⊎_elim (λ e. omega (arith, e.0, a.0)) (λ e. unfit_from p k rs ws a.1 e) u

pub left_in : (file : List ℕ) (e p : ℕ) → p ≤ e → left_of file e p ≡ words_at file p
left_in file e p h = cond-true (leb p e) (words_at file p) [] (le-leb p e h)

left_out : (file : List ℕ) (e p : ℕ) → e < p → left_of file e p ≡ []
left_out file e p h = cond-false (leb p e) (words_at file p) [] (lt-leb p e h)

left_from : (file : List ℕ) (e p : ℕ) → AllFrom p (left_of file e p)
left_from file e p =
    ⊎_elim
    (λ h. subst (AllFrom p) (sym (left_out file e p h)) tt)
    (λ h. subst (AllFrom p) (sym (left_in file e p h)) (all_from p (line (drop p file))))
    (cases_lt e p)

pub left_taken : (file : List ℕ) (e p p' : ℕ) (w : Spot) → end_at file p ≡ e → Taken file p p' w → (left_of file e p ≡ w ∷ left_of file e p') × (p' ≤ e → end_at file p' ≡ e) × (p < p')
left_taken file e p p' w is t =
    let inside : p ≤ e = omega arith in
    ⊎_elim
    (λ sp.
    let on = t.more sp in
    let in' : p' ≤ e = omega arith in
    let same : p + length w.text + 1 ≡ p' = omega (arith, t.on) in (
      left_in file e p inside ∙ t.cut ∙ ap (λ (ws : List Spot). w ∷ ws) (cond-true (eqb (get_or file (p + length w.text) 0) 32) _ _ (eq-eqb _ 32 sp) ∙ ap (words_at file) same ∙ sym (left_in file e p' in')),
      λ _. on ∙ is,
      omega (arith, t.on),
    ))
    (λ ns.
    let over : e < p' = omega (arith, t.last ns) in (
      left_in file e p inside ∙ t.cut ∙ ap (λ (ws : List Spot). w ∷ ws) (cond-false (eqb (get_or file (p + length w.text) 0) 32) _ _ (ne_eqb _ 32 ns) ∙ sym (left_out file e p' over)),
      λ h. absurd (omega arith),
      omega (arith, t.on),
    ))
    (cases_eq (get_or file (p + length w.text) 0) 32)

-- the place of the first word
abbrev first_of : ℕ → List Spot → ℕ
first_of d [] = d
first_of d (x ∷ xs) = x.place

starts_grow : (q c : ℕ) (xs : List Spot) → first_of q (grow q c xs) ≡ q
starts_grow q c [] = refl
starts_grow q c (x ∷ xs) = refl

starts : (q : ℕ) (cs : List ℕ) → first_of q (words q cs) ≡ q
starts q [] = refl
starts q (c ∷ cs) =
    ⊎_elim
    (λ is. ap (first_of q) (words_space q c cs is))
    (λ ne. ap (first_of q) (words_other q c cs ne) ∙ starts_grow q c (words (q + 1) cs))
    (cases_eq c 32)

allowed_push : (ws : List Want) (fs : List Field) (w : Want) (f : Field) → Allowed ws fs → Allows w f → Allowed (ws ++ w ∷ []) (fs ++ f ∷ [])
allowed_push [] [] w f a b = (b, tt)
allowed_push [] (g ∷ gs) w f a b = absurd a
allowed_push (v ∷ vs) [] w f a b = absurd a
allowed_push (v ∷ vs) (g ∷ gs) w f a b = (a.0, allowed_push vs gs w f a.1 b)

numbered_more : (out : List ℕ) (i n : ℕ) → i < length out → numbered (take (i + 1) (set out i n)) ≡ numbered (take i out) ++ number n ∷ []
numbered_more out i n h = ap numbered (take_more_set out i n h) ∙ map_push number (take i out) n

-- of the words ws the first i were taken, and are what is wanted; ws' are left
pub record Going (ws : List Spot) (rs : List Want) (i : ℕ) (out : List ℕ) (ws' : List Spot) : Type 0 where
  pub count : length ws' + i ≡ length rs
  pub same : texts ws ≡ map written (numbered (take i out)) ++ texts ws'
  pub first : (q : ℕ) → First (Unfit (drop i rs) ws') q → First (Unfit rs ws) q
  pub fit : Allowed (take i rs) (numbered (take i out))

first_on : (r : Want) (rs : List Want) (w : Spot) (ws : List Spot) (q : ℕ) → Fits r w.text → First (Unfit rs ws) q → First (Unfit (r ∷ rs) (w ∷ ws)) q
first_on r rs w ws q fit f = record {
  here = inr f.here;
  before = λ k lt u. ⊎_elim (λ e. e.1 fit) (λ e. f.before k lt e) u;
}

pub going_on : (ws : List Spot) (rs rs' : List Want) (r : Want) (i : ℕ) (out : List ℕ) (ws' ws'' : List Spot) (n : ℕ) (w : Spot) → Going ws rs i out ws' → drop i rs ≡ r ∷ rs' → drop (i + 1) rs ≡ rs' → take (i + 1) rs ≡ take i rs ++ r ∷ [] → i < length out → ws' ≡ w ∷ ws'' → w.text ≡ decimal n → Allows r (number n) → Going ws rs (i + 1) (set out i n) ws''
going_on ws rs rs' r i out ws' ws'' n w g now' then' so room l is fit =
    let more = numbered_more out i n room in
    record {
      count = omega (arith, g.count, ap length l);
      same = g.same ∙ ap (λ (x : List (List ℕ)). map written (numbered (take i out)) ++ x) (ap texts l ∙ ap (λ (x : List ℕ). x ∷ texts ws'') is)
          ∙ sym (append_assoc (map written (numbered (take i out))) (decimal n ∷ []) (texts ws''))
          ∙ ap (λ (x : List (List ℕ)). x ++ texts ws'') (sym (map_push written (numbered (take i out)) (number n)) ∙ sym (ap (map written) more));
      first = λ q f. g.first q (subst (λ (x : List Spot). First (Unfit (drop i rs) x) q) (sym l) (subst (λ (x : List Want). First (Unfit x (w ∷ ws'')) q) (sym now') (first_on r rs' w ws'' q (number n, is, fit) (subst (λ (x : List Want). First (Unfit x ws'') q) then' f))));
      fit = subst (λ (x : List Want). Allowed x (numbered (take (i + 1) (set out i n)))) (sym so) (subst (Allowed (take i rs ++ r ∷ [])) (sym more) (allowed_push (take i rs) (numbered (take i out)) r (number n) g.fit fit));
    }

-- the next word is the first that is not what is wanted
pub going_bad : (file : List ℕ) (e p : ℕ) (ws : List Spot) (rs rs' : List Want) (r : Want) (i : ℕ) (out : List ℕ) (ws' : List Spot) (w : Spot) → Going ws rs i out ws' → drop i rs ≡ r ∷ rs' → ws' ≡ w ∷ left_of file e p → w.place < p → (Fits r w.text → ⊥) → First (Unfit rs ws) w.place
going_bad file e p ws rs rs' r i out ws' w g now' l on bad =
    g.first w.place (subst (λ (x : List Spot). First (Unfit (drop i rs) x) w.place) (sym l) (subst (λ (x : List Want). First (Unfit x (w ∷ left_of file e p)) w.place) (sym now') (record {
      here = inl (refl, bad);
      before = λ k lt u. ⊎_elim (λ x. omega (arith, x.0)) (λ x. omega (arith, on, unfit_from p k rs' (left_of file e p) (left_from file e p) x)) u;
    })))

pub wanted : (rs : List Range) (i : ℕ) (d : Range) → i < length rs → drop i (map want rs) ≡ want (get_or rs i d) ∷ drop (i + 1) (map want rs)
wanted rs i d h =
    let long : i < length (map want rs) = omega (arith, length-map rs want) in
    drop_more (map want rs) i (want d) long ∙ ap (λ (x : Want). x ∷ drop (i + 1) (map want rs)) (get_or-map want rs i d (want d) h)

pub wanted_so_far : (rs : List Range) (i : ℕ) (d : Range) → i < length rs → take (i + 1) (map want rs) ≡ take i (map want rs) ++ want (get_or rs i d) ∷ []
wanted_so_far rs i d h = take-map want (i + 1) rs ∙ map_more want rs i d h ∙ ap (λ (x : List Want). x ++ want (get_or rs i d) ∷ []) (sym (take-map want i rs))
