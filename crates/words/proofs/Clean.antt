-- A line written of clean words is cut into them again, and passes the checks of words. Assumes nothing.
use Rattle.std.proofs.Common.{◌≡◌, ℕ, ◌+◌, ◌-◌, ◌^◌, ◌<◌, ◌≤◌, Bool, true, ◌&&◌, ◌||◌, leb, ◌⊎◌, List, [], ◌∷◌, ◌++◌, length, get_or, drop, decimal, sym, refl, ap, ◌∙◌, subst, inl, inr, ⊎_elim, arith}
use Rattle.std.specs.Int.{IsInRange}
use Rattle.std.specs.List.{AllByRecursion}
use Rattle.std.proofs.lemmas.Fmt.{decimal_nonempty, decimal_is_IsNumeral}
use Rattle.std.proofs.ByRecursion.{All-from_get_or, All-get_or}
use Rattle.std.proofs.lemmas.List.Prefix.{at_reads}
use Rattle.std.proofs.lemmas.List.{append_assoc, take-append-drop, length-append, length-drop, length-take}
use Rattle.std.proofs.lemmas.Str.Parse.{digit_at}
use Rattle.std.proofs.lemmas.Bool.{and_parts, or_cases, leb-true}
use Rattle.words.specs.Lines.{Spot, line, words, words_at, end_at, Plain, Empty, word_checks}
use Rattle.words.specs.Tables.{Passes}
use Rattle.words.specs.Texts.{texts, spaced, line_of, Stands}
use Rattle.words.proofs.Cuts.{words_space, words_other, grow, line_on, line_stop}

-- a letter or a digit
abbrev pub Letter : ℕ → Type 0
Letter c = IsInRange 97 122 c ⊎ IsInRange 48 57 c

-- some letters and digits, and no other byte
pub record Clean (t : List ℕ) : Type 0 where
  pub some : 0 < length t
  pub each : AllByRecursion Letter t

not_space : (c : ℕ) → Letter c → c ≡ 32 → ⊥
not_space c (inl a) e = omega (arith, a.0)
not_space c (inr a) e = omega (arith, a.0)

texts_grow : (p c : ℕ) (ws : List Spot) (t : List ℕ) (ts : List (List ℕ)) → texts ws ≡ t ∷ ts → texts (grow p c ws) ≡ (c ∷ t) ∷ ts
texts_grow p c [] t ts e = absurd (omega (arith, ap length e))
texts_grow p c (w ∷ ws) t ts e = let a : w.text ≡ t = cc in let b : texts ws ≡ ts = cc in λ i. (c ∷ a i) ∷ b i

word_alone : (p : ℕ) (t : List ℕ) → AllByRecursion Letter t → texts (words p t) ≡ t ∷ []
word_alone p [] a = refl
word_alone p (c ∷ cs) a = ap texts (words_other p c cs (not_space c a.0)) ∙ texts_grow p c (words (p + 1) cs) cs [] (word_alone (p + 1) cs a.1)

word_then : (p : ℕ) (t rest : List ℕ) (ts : List (List ℕ)) → AllByRecursion Letter t → ((q : ℕ) → texts (words q rest) ≡ ts) → texts (words p (t ++ (32 ∷ rest))) ≡ t ∷ ts
word_then p [] rest ts a more = ap texts (words_space p 32 rest refl) ∙ ap (λ (x : List (List ℕ)). [] ∷ x) (more (p + 1))
word_then p (c ∷ cs) rest ts a more =
    ap texts (words_other p c (cs ++ (32 ∷ rest)) (not_space c a.0)) ∙ texts_grow p c (words (p + 1) (cs ++ (32 ∷ rest))) cs ts (word_then (p + 1) cs rest ts a.1 more)

-- words written out are cut again
pub cut_again : (ts : List (List ℕ)) (p : ℕ) → 0 < length ts → AllByRecursion Clean ts → texts (words p (spaced ts)) ≡ ts
cut_again [] p h a = absurd (omega arith)
cut_again (t ∷ []) p h a = word_alone p t a.0.each
cut_again (t ∷ u ∷ us) p h a = word_then p t (spaced (u ∷ us)) (u ∷ us) a.0.each (λ q. cut_again (u ∷ us) q (omega arith) a.1)

plain_letters : (t : List ℕ) → AllByRecursion Letter t → AllByRecursion Plain t
plain_letters [] a = tt
plain_letters (c ∷ cs) a = (⊎_elim (λ x. inl x) (λ x. inr (inl x)) a.0, plain_letters cs a.1)

plain_join : (s t : List ℕ) → AllByRecursion Plain s → AllByRecursion Plain t → AllByRecursion Plain (s ++ t)
plain_join [] t a b = b
plain_join (c ∷ cs) t a b = (a.0, plain_join cs t a.1 b)

plain_spaced : (ts : List (List ℕ)) → AllByRecursion Clean ts → AllByRecursion Plain (spaced ts)
plain_spaced [] a = tt
plain_spaced (t ∷ []) a = plain_letters t a.0.each
plain_spaced (t ∷ u ∷ us) a = plain_join t (32 ∷ spaced (u ∷ us)) (plain_letters t a.0.each) (inr (inr refl), plain_spaced (u ∷ us) a.1)

plain_no_feed : (c : ℕ) → Plain c → c ≡ 10 → ⊥
plain_no_feed c (inl a) e = omega (arith, a.0)
plain_no_feed c (inr (inl a)) e = omega (arith, a.0)
plain_no_feed c (inr (inr a)) e = omega arith

line_until : (bs rest : List ℕ) → AllByRecursion Plain bs → line (bs ++ (10 ∷ rest)) ≡ bs
line_until [] rest a = line_stop 10 rest refl
line_until (c ∷ cs) rest a = line_on c (cs ++ (10 ∷ rest)) (plain_no_feed c a.0) ∙ ap (λ (x : List ℕ). c ∷ x) (line_until cs rest a.1)

no_empty : (ws : List Spot) (q : ℕ) → AllByRecursion Clean (texts ws) → Empty ws q → ⊥
no_empty [] q a h = h
no_empty (w ∷ ws) q a h = ⊎_elim (λ e. omega (arith, a.0.some, ap length e.1)) (λ e. no_empty ws q a.1 e) h

pub stands_inside : (file : List ℕ) (p : ℕ) (t : List ℕ) → Stands file p t → 0 < length t → p + length t ≤ length file
stands_inside file p t s some = omega (arith, ap length s, length-take (length t) (drop p file), length-drop p file)

pub stands_whole : (file : List ℕ) (p : ℕ) (t : List ℕ) → Stands file p t → drop p file ≡ t ++ drop (length t) (drop p file)
stands_whole file p t s = sym (take-append-drop (length t) (drop p file)) ∙ ap (λ (x : List ℕ). x ++ drop (length t) (drop p file)) s

module _ (file : List ℕ) (p : ℕ) (ts : List (List ℕ)) (some : 0 < length ts) (clean : AllByRecursion Clean ts) (s : Stands file p (line_of ts)) where
  whole : drop p file ≡ spaced ts ++ (10 ∷ drop (length (line_of ts)) (drop p file))
  whole = stands_whole file p (line_of ts) s ∙ append_assoc (spaced ts) (10 ∷ []) (drop (length (line_of ts)) (drop p file))

  the_line : line (drop p file) ≡ spaced ts
  the_line = ap line whole ∙ line_until (spaced ts) _ (plain_spaced ts clean)

  long : length (line_of ts) ≡ length (spaced ts) + 1
  long = length-append (spaced ts) (10 ∷ [])

  pub line_words : texts (words_at file p) ≡ ts
  line_words = ap (λ (x : List ℕ). texts (words p x)) the_line ∙ cut_again ts p some clean

  fed : end_at file p < length file
  fed = omega (arith, ap length the_line, long, stands_inside file p (line_of ts) s (omega (arith, long)))

  pub line_passes : Passes (word_checks file p)
  line_passes = (
    (λ q h.
        let low = h.0 in
        let high = h.1 in
        let at : p + (q - p) ≡ q = omega arith in
        let in' : q - p < length (spaced ts) = omega (arith, ap length the_line) in
        let is = at_reads 0 file (spaced ts) p (10 ∷ drop (length (line_of ts)) (drop p file)) whole (q - p) in' in
        h.2 (subst Plain (sym (sym (ap (λ k. get_or file k 0) at) ∙ is)) (All-get_or Plain (spaced ts) (q - p) 0 in' (plain_spaced ts clean)))),
    (
      (λ q h. no_empty (words_at file p) q (subst (AllByRecursion Clean) (sym line_words) clean) h),
      ((λ q h. let e = h.1 in omega (arith, fed)), tt),
    ),
  )

-- letters and digits by a test that computes
abbrev letterb : ℕ → Bool
letterb c = (leb 97 c && leb c 122) || (leb 48 c && leb c 57)

abbrev lettersb : List ℕ → Bool
lettersb [] = true
lettersb (c ∷ cs) = letterb c && lettersb cs

letter_from : (c : ℕ) → letterb c ≡ true → Letter c
letter_from c e =
    ⊎_elim
    (λ a. let h = and_parts (leb 97 c) (leb c 122) a in inl (leb-true 97 c h.0, leb-true c 122 h.1))
    (λ a. let h = and_parts (leb 48 c) (leb c 57) a in inr (leb-true 48 c h.0, leb-true c 57 h.1))
    (or_cases (leb 97 c && leb c 122) (leb 48 c && leb c 57) e)

letters_from : (t : List ℕ) → lettersb t ≡ true → AllByRecursion Letter t
letters_from [] e = tt
letters_from (c ∷ cs) e = let h = and_parts (letterb c) (lettersb cs) e in (letter_from c h.0, letters_from cs h.1)

pub clean_by : (t : List ℕ) → 0 < length t → lettersb t ≡ true → Clean t
clean_by t h e = record { some = h; each = letters_from t e }

pub clean_decimal : (n : ℕ) → n < 2 ^ 64 → Clean (decimal n)
clean_decimal n h = record {
  some = decimal_nonempty n h;
  each = All-from_get_or Letter (decimal n) 0 (λ i lt. inr (digit_at (decimal n) i (decimal_is_IsNumeral n h).0.1 lt));
}
