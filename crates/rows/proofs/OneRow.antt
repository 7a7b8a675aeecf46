-- A line that reads as a row passes every check, and reads as no other row. Assumes nothing.
use Rattle.std.proofs.Common.{◌≡◌, ℕ, ◌+◌, ◌*◌, ◌≤◌, cond, eqb, List, [], ◌∷◌, map, length, get_or, sym, refl, ap, ◌∙◌, subst, ⊎_elim, arith}
use Rattle.std.specs.List.{AllByRecursion}
use Rattle.std.proofs.lemmas.Fmt.{decimal_injective, length-decimal-le}
use Rattle.std.proofs.lemmas.List.{length-append}
use Rattle.std.proofs.lemmas.Bool.{both_ways}
use Rattle.words.specs.Lines.{Spot, words_at}
use Rattle.words.specs.Tables.{Never, Passes}
use Rattle.words.specs.Texts.{texts, spaced}
use Rattle.words.proofs.Clean.{Clean, clean_by, clean_decimal, line_words, line_passes}
use Rattle.merge.specs.declared.choice.Choice.{Choice}
use Rattle.merge.specs.declared.choice.Choice.TheVariants.{Fair, Ramp, Zip}
use Rattle.rows.specs.Kinds.{name_of, count_of, in_order}
use Rattle.rows.specs.Reading.{Reads, Named, behind_name, line_checks}
use Rattle.rows.specs.Rows.{Field, number, rule, written, rule_text, kind_of, fields_of, spelled, text_of}
use Rattle.rows.specs.Wants.{Want, between, rule_name, Allows, Allowed, wants, Ranged, Unfit}
use Rattle.rows.specs.declared.kind.Kind.{Kind}
use Rattle.rows.specs.declared.kind.Kind.TheVariants.{Net, Link, Route, Merge, Meter, Go, Book, Step, Show}
use Rattle.rows.specs.declared.kind.Stage.{Stage}
use Rattle.rows.specs.declared.row.Row.{Row}
use Rattle.rows.specs.declared.row.Row.TheVariants as row
use Rattle.rows.specs.declared.row.CallRow.TheVariants as call
use Rattle.rows.proofs.OneKind.{one_kind}

-- no number that is wanted is over 65,535
abbrev SmallWant : Want → Type 0
SmallWant (between lo hi) = hi ≤ 65535
SmallWant rule_name = Unit {0}

small_wants : (nodes links : ℕ) → nodes ≤ 65535 → links ≤ 65535 → (k : Kind) → AllByRecursion SmallWant (wants nodes links k)
small_wants n l hn hl Net = (omega arith, (omega arith, tt))
small_wants n l hn hl Link = (hn, (hn, (omega arith, (omega arith, (omega arith, (omega arith, tt))))))
small_wants n l hn hl Route = (hn, (hn, (hl, tt)))
small_wants n l hn hl Merge = (tt, tt)
small_wants n l hn hl Meter = (hn, (omega arith, (omega arith, tt)))
small_wants n l hn hl Go = tt
small_wants n l hn hl Book = (omega arith, (omega arith, (omega arith, tt)))
small_wants n l hn hl Step = (omega arith, tt)
small_wants n l hn hl Show = tt

clean_rule : (r : Choice) → Clean (rule_text r)
clean_rule Fair = clean_by _ (omega arith) refl
clean_rule Ramp = clean_by _ (omega arith) refl
clean_rule Zip = clean_by _ (omega arith) refl

clean_name : (k : Kind) → Clean (name_of k)
clean_name Net = clean_by _ (omega arith) refl
clean_name Link = clean_by _ (omega arith) refl
clean_name Route = clean_by _ (omega arith) refl
clean_name Merge = clean_by _ (omega arith) refl
clean_name Meter = clean_by _ (omega arith) refl
clean_name Go = clean_by _ (omega arith) refl
clean_name Book = clean_by _ (omega arith) refl
clean_name Step = clean_by _ (omega arith) refl
clean_name Show = clean_by _ (omega arith) refl

clean_field : (w : Want) (f : Field) → SmallWant w → Allows w f → Clean (written f)
clean_field (between lo hi) (number n) s a = clean_decimal n (let h = a.1 in omega arith)
clean_field (between lo hi) (rule r) s a = absurd a
clean_field rule_name (number n) s a = absurd a
clean_field rule_name (rule r) s a = clean_rule r

clean_fields : (ws : List Want) (fs : List Field) → AllByRecursion SmallWant ws → Allowed ws fs → AllByRecursion Clean (map written fs)
clean_fields [] [] s a = tt
clean_fields [] (f ∷ fs) s a = absurd a
clean_fields (w ∷ ws) [] s a = absurd a
clean_fields (w ∷ ws) (f ∷ fs) s a = (clean_field w f s.0 a.0, clean_fields ws fs s.1 a.1)

clean_spelled : (nodes links : ℕ) → nodes ≤ 65535 → links ≤ 65535 → (r : Row) → Ranged nodes links r → AllByRecursion Clean (spelled r)
clean_spelled n l hn hl r a = (clean_name (kind_of r), clean_fields (wants n l (kind_of r)) (fields_of r) (small_wants n l hn hl (kind_of r)) a)

-- a name and its fields
head_named : (ws : List Spot) (k : Kind) (ts : List (List ℕ)) → texts ws ≡ name_of k ∷ ts → Named ws k
head_named [] k ts e = absurd (omega (arith, ap length e))
head_named (w ∷ ws) k ts e = let h : w.text ≡ name_of k = cc in h

tail_fields : (ws : List Spot) (t : List ℕ) (ts : List (List ℕ)) → texts ws ≡ t ∷ ts → texts (behind_name ws) ≡ ts
tail_fields [] t ts e = absurd (omega (arith, ap length e))
tail_fields (w ∷ ws) t ts e = let h : texts ws ≡ ts = cc in h

named_once : (ws : List Spot) (j k : Kind) → Named ws j → Named ws k → j ≡ k
named_once [] j k a b = absurd a
named_once (w ∷ ws) j k a b = one_kind w.text j k a b

length_texts : (ws : List Spot) → length (texts ws) ≡ length ws
length_texts [] = refl
length_texts (w ∷ ws) = omega (arith, length_texts ws)

counted : (r : Row) → length (spelled r) ≡ count_of (kind_of r)
counted (row.Net n l) = refl
counted (row.Link k) = refl
counted (row.Route n x k) = refl
counted (row.Merge u) = refl
counted (row.Meter n u t) = refl
counted row.Go = refl
counted (row.Call (call.Book n x k)) = refl
counted (row.Call (call.Step k)) = refl
counted (row.Call call.Show) = refl

all_fit : (ws : List Want) (fs : List Field) (xs : List Spot) → texts xs ≡ map written fs → Allowed ws fs → Never (Unfit ws xs)
all_fit [] fs xs e a q u = u
all_fit (w ∷ ws) fs [] e a q u = u
all_fit (w ∷ ws) [] (x ∷ xs) e a q u = absurd a
all_fit (w ∷ ws) (f ∷ fs) (x ∷ xs) e a q u =
    let here : x.text ≡ written f = cc in
    let rest : texts xs ≡ map written fs = cc in
    ⊎_elim (λ h. h.1 (f, here, a.0)) (λ h. all_fit ws fs xs rest a.1 q h) u

module _ (file : List ℕ) (p : ℕ) (stage : Stage) (nodes links : ℕ) (few : nodes ≤ 65535) (small : links ≤ 65535) (r : Row) (reads : Reads file p stage nodes links r) where
  clean : AllByRecursion Clean (spelled r)
  clean = clean_spelled nodes links few small r reads.ranged

  pub reads_words : texts (words_at file p) ≡ spelled r
  reads_words = line_words file p (spelled r) (omega arith) clean reads.text

  named : Named (words_at file p) (kind_of r)
  named = head_named (words_at file p) (kind_of r) (map written (fields_of r)) reads_words

  only : (j : Kind) → Named (words_at file p) j → j ≡ kind_of r
  only j h = named_once (words_at file p) j (kind_of r) h named

  pub reads_pass : Passes (line_checks file p stage nodes links)
  reads_pass =
      let good = line_passes file p (spelled r) (omega arith) clean reads.text in
      let count : length (words_at file p) ≡ count_of (kind_of r) = sym (length_texts (words_at file p)) ∙ ap length reads_words ∙ counted r in
      let fit = all_fit (wants nodes links (kind_of r)) (fields_of r) (behind_name (words_at file p)) (tail_fields (words_at file p) (name_of (kind_of r)) (map written (fields_of r)) reads_words) reads.ranged in (
        good.0,
        (
          good.1.0,
          (
            good.1.1.0,
            (
              (λ k h. h.1 (kind_of r) named),
              (
                (λ k h. both_ways _ h.1.2 (ap (in_order stage) (only h.1.0 h.1.1) ∙ reads.order)),
                (
                  (λ k h. h.1.2 (count ∙ ap count_of (sym (only h.1.0 h.1.1)))),
                  (
                    (λ k h. fit k (subst (λ (j : Kind). Unfit (wants nodes links j) (behind_name (words_at file p)) k) (only h.0 h.1) h.2)),
                    tt,
                  ),
                ),
              ),
            ),
          ),
        ),
      )

-- the rule of a name, found again
abbrev rule_at : List ℕ → Choice
rule_at t = cond (eqb (get_or t 0 0) 102) Fair (cond (eqb (get_or t 0 0) 114) Ramp Zip)

rule_again : (r : Choice) → rule_at (rule_text r) ≡ r
rule_again Fair = refl
rule_again Ramp = refl
rule_again Zip = refl

same_field : (w : Want) (f g : Field) → SmallWant w → Allows w f → Allows w g → written f ≡ written g → f ≡ g
same_field (between lo hi) (number m) (number n) s a b e =
    let hm = a.1 in
    let hn = b.1 in
    ap number (decimal_injective m n (omega arith) (omega arith) e)
same_field (between lo hi) (number m) (rule r) s a b e = absurd b
same_field (between lo hi) (rule r) g s a b e = absurd a
same_field rule_name (number m) g s a b e = absurd a
same_field rule_name (rule r) (number m) s a b e = absurd b
same_field rule_name (rule q) (rule r) s a b e = ap rule (sym (rule_again q) ∙ ap rule_at e ∙ rule_again r)

same_fields : (ws : List Want) (fs gs : List Field) → AllByRecursion SmallWant ws → Allowed ws fs → Allowed ws gs → map written fs ≡ map written gs → fs ≡ gs
same_fields [] [] [] s a b e = refl
same_fields [] [] (g ∷ gs) s a b e = absurd b
same_fields [] (f ∷ fs) gs s a b e = absurd a
same_fields (w ∷ ws) [] gs s a b e = absurd a
same_fields (w ∷ ws) (f ∷ fs) [] s a b e = absurd b
same_fields (w ∷ ws) (f ∷ fs) (g ∷ gs) s a b e =
    let here : written f ≡ written g = cc in
    let rest : map written fs ≡ map written gs = cc in
    λ i. same_field w f g s.0 a.0 b.0 here i ∷ same_fields ws fs gs s.1 a.1 b.1 rest i

abbrev value_of : Field → ℕ
value_of (number n) = n
value_of (rule r) = 0

abbrev num : ℕ → List Field → ℕ
num i fs = value_of (get_or fs i (number 0))

abbrev rule_in : Field → Choice
rule_in (number n) = Fair
rule_in (rule r) = r

-- a row from its kind and its fields
abbrev rebuilt : Kind → List Field → Row
rebuilt Net fs = row.Net (num 0 fs) (num 1 fs)
rebuilt Link fs = row.Link (record { from = num 0 fs; to = num 1 fs; free = num 2 fs; wave = num 3 fs; capacity = num 4 fs; storage = num 5 fs })
rebuilt Route fs = row.Route (num 0 fs) (num 1 fs) (num 2 fs)
rebuilt Merge fs = row.Merge (rule_in (get_or fs 0 (number 0)))
rebuilt Meter fs = row.Meter (num 0 fs) (num 1 fs) (num 2 fs)
rebuilt Go fs = row.Go
rebuilt Book fs = row.Call (call.Book (num 0 fs) (num 1 fs) (num 2 fs))
rebuilt Step fs = row.Call (call.Step (num 0 fs))
rebuilt Show fs = row.Call call.Show

rebuilt_is : (r : Row) → rebuilt (kind_of r) (fields_of r) ≡ r
rebuilt_is (row.Net n l) = refl
rebuilt_is (row.Link k) = refl
rebuilt_is (row.Route n x k) = refl
rebuilt_is (row.Merge u) = refl
rebuilt_is (row.Meter n u t) = refl
rebuilt_is row.Go = refl
rebuilt_is (row.Call (call.Book n x k)) = refl
rebuilt_is (row.Call (call.Step k)) = refl
rebuilt_is (row.Call call.Show) = refl

pub same_row : (nodes links : ℕ) → nodes ≤ 65535 → links ≤ 65535 → (r s : Row) → Ranged nodes links r → Ranged nodes links s → spelled r ≡ spelled s → r ≡ s
same_row nodes links few small r s a b e =
    let k : kind_of r ≡ kind_of s = one_kind (name_of (kind_of r)) (kind_of r) (kind_of s) refl (let h : name_of (kind_of r) ≡ name_of (kind_of s) = cc in h) in
    let rest : map written (fields_of r) ≡ map written (fields_of s) = cc in
    let f = same_fields (wants nodes links (kind_of s)) (fields_of r) (fields_of s) (small_wants nodes links few small (kind_of s)) (subst (λ (j : Kind). Allowed (wants nodes links j) (fields_of r)) k a) b rest in
    sym (rebuilt_is r) ∙ (λ i. rebuilt (k i) (f i)) ∙ rebuilt_is s

pub reads_once : (file : List ℕ) (p : ℕ) (stage : Stage) (nodes links : ℕ) → nodes ≤ 65535 → links ≤ 65535 → (r s : Row) → Reads file p stage nodes links r → Reads file p stage nodes links s → r ≡ s
reads_once file p stage nodes links few small r s a b =
    same_row nodes links few small r s a.ranged b.ranged (sym (reads_words file p stage nodes links few small r a) ∙ reads_words file p stage nodes links few small s b)

-- No row's text is over 42 bytes.
short_rule : (r : Choice) → length (rule_text r) ≤ 5
short_rule Fair = omega arith
short_rule Ramp = omega arith
short_rule Zip = omega arith

short_name : (k : Kind) → length (name_of k) ≤ 5
short_name Net = omega arith
short_name Link = omega arith
short_name Route = omega arith
short_name Merge = omega arith
short_name Meter = omega arith
short_name Go = omega arith
short_name Book = omega arith
short_name Step = omega arith
short_name Show = omega arith

few_words : (k : Kind) → count_of k ≤ 7
few_words Net = omega arith
few_words Link = omega arith
few_words Route = omega arith
few_words Merge = omega arith
few_words Meter = omega arith
few_words Go = omega arith
few_words Book = omega arith
few_words Step = omega arith
few_words Show = omega arith

abbrev Short : List ℕ → Type 0
Short t = length t ≤ 5

short_field : (w : Want) (f : Field) → SmallWant w → Allows w f → Short (written f)
short_field (between lo hi) (number n) s a = let h = a.1 in length-decimal-le 5 n (omega arith) (omega arith) (omega arith)
short_field (between lo hi) (rule r) s a = absurd a
short_field rule_name (number n) s a = absurd a
short_field rule_name (rule r) s a = short_rule r

short_fields : (ws : List Want) (fs : List Field) → AllByRecursion SmallWant ws → Allowed ws fs → AllByRecursion Short (map written fs)
short_fields [] [] s a = tt
short_fields [] (f ∷ fs) s a = absurd a
short_fields (w ∷ ws) [] s a = absurd a
short_fields (w ∷ ws) (f ∷ fs) s a = (short_field w f s.0 a.0, short_fields ws fs s.1 a.1)

short_spaced : (t : List ℕ) (ts : List (List ℕ)) → AllByRecursion Short (t ∷ ts) → length (spaced (t ∷ ts)) + 1 ≤ 6 * length (t ∷ ts)
short_spaced t [] a = let h = a.0 in omega arith
short_spaced t (u ∷ us) a = let h = a.0 in omega (arith, short_spaced u us a.1, length-append t (32 ∷ spaced (u ∷ us)))

pub text_short : (nodes links : ℕ) → nodes ≤ 65535 → links ≤ 65535 → (r : Row) → Ranged nodes links r → length (text_of r) ≤ 42
text_short nodes links few small r a =
    let fields = short_fields (wants nodes links (kind_of r)) (fields_of r) (small_wants nodes links few small (kind_of r)) a in
    omega (arith, short_spaced (name_of (kind_of r)) (map written (fields_of r)) (short_name (kind_of r), fields), length-append (spaced (spelled r)) (10 ∷ []), counted r, few_words (kind_of r))
