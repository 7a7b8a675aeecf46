-- A line is its words with one space between. Assumes nothing.
use Rattle.std.proofs.Common.{◌≡◌, ℕ, ◌+◌, ◌<◌, List, [], ◌∷◌, ◌++◌, length, take, drop, sym, refl, ap, ◌∙◌, subst, ⊎_elim, arith}
use Rattle.std.proofs.lemmas.List.{take_at, length-append, length-drop}
use Rattle.std.proofs.lemmas.Bool.{cases_eq}
use Rattle.words.specs.Lines.{Spot, spot, line, words, words_at, end_at}
use Rattle.words.specs.Texts.{texts, spaced, line_of, Stands}
use Rattle.words.proofs.Cuts.{words_space, words_other, grow, line_on, line_stop}

some_grow : (p c : ℕ) (ws : List Spot) → 0 < length ws → 0 < length (grow p c ws)
some_grow p c [] h = h
some_grow p c (w ∷ ws) h = omega arith

some_words : (p : ℕ) (bs : List ℕ) → 0 < length (words p bs)
some_words p [] = omega arith
some_words p (c ∷ cs) =
    ⊎_elim
    (λ is. subst (λ (x : List Spot). 0 < length x) (sym (words_space p c cs is)) (omega arith))
    (λ ne. subst (λ (x : List Spot). 0 < length x) (sym (words_other p c cs ne)) (some_grow p c (words (p + 1) cs) (some_words (p + 1) cs)))
    (cases_eq c 32)

spaced_space : (p : ℕ) (ws : List Spot) → 0 < length ws → spaced (texts (spot p [] ∷ ws)) ≡ 32 ∷ spaced (texts ws)
spaced_space p [] h = absurd (omega arith)
spaced_space p (w ∷ ws) h = refl

spaced_grow : (p c : ℕ) (ws : List Spot) → 0 < length ws → spaced (texts (grow p c ws)) ≡ c ∷ spaced (texts ws)
spaced_grow p c [] h = absurd (omega arith)
spaced_grow p c (w ∷ []) h = refl
spaced_grow p c (w ∷ v ∷ ws) h = refl

pub rejoined : (p : ℕ) (bs : List ℕ) → spaced (texts (words p bs)) ≡ bs
rejoined p [] = refl
rejoined p (c ∷ cs) =
    ⊎_elim
    (λ is. ap (λ (x : List Spot). spaced (texts x)) (words_space p c cs is) ∙ spaced_space p (words (p + 1) cs) (some_words (p + 1) cs) ∙ (λ i. sym is i ∷ rejoined (p + 1) cs i))
    (λ ne. ap (λ (x : List Spot). spaced (texts x)) (words_other p c cs ne) ∙ spaced_grow p c (words (p + 1) cs) (some_words (p + 1) cs) ∙ ap (λ (x : List ℕ). c ∷ x) (rejoined (p + 1) cs))
    (cases_eq c 32)

fed : (bs : List ℕ) → length (line bs) < length bs → (rest : List ℕ) × (bs ≡ (line bs ++ (10 ∷ [])) ++ rest)
fed [] h = absurd (omega arith)
fed (c ∷ cs) h =
    ⊎_elim
    (λ is. (cs, subst (λ (x : List ℕ). c ∷ cs ≡ (x ++ (10 ∷ [])) ++ cs) (sym (line_stop c cs is)) (ap (λ x. x ∷ cs) is)))
    (λ ne.
    let on = line_on c cs ne in
    let more = fed cs (omega (arith, ap length on)) in
    (more.0, subst (λ (x : List ℕ). c ∷ cs ≡ (x ++ (10 ∷ [])) ++ more.0) (sym on) (ap (λ (x : List ℕ). c ∷ x) more.1)))
    (cases_eq c 10)

-- a line that has its line feed is the text of its words
pub line_stands : (file : List ℕ) (p : ℕ) (ts : List (List ℕ)) → end_at file p < length file → texts (words_at file p) ≡ ts → Stands file p (line_of ts) × (end_at file p + 1 ≡ p + length (line_of ts))
line_stands file p ts h e =
    let bs = drop p file in
    let is : line bs ≡ spaced ts = sym (rejoined p (line bs)) ∙ ap spaced e in
    let parts = fed bs (omega (arith, length-drop p file)) in
    let whole : bs ≡ line_of ts ++ parts.0 = parts.1 ∙ ap (λ (x : List ℕ). (x ++ (10 ∷ [])) ++ parts.0) is in (
      ap (take (length (line_of ts))) whole ∙ take_at (line_of ts) parts.0 (length (line_of ts)) refl,
      omega (arith, ap length is, length-append (spaced ts) (10 ∷ [])),
    )
