-- A line whose words are good is judged as a row, down the table. Assumes nothing.
use Rattle.std.proofs.Common.{◌≡◌, ℕ, ◌+◌, ◌<◌, true, false, List, ◌∷◌, map, length, Err, sym, refl, ap, ◌∙◌, subst, inl, inr, arith}
use Rattle.std.proofs.lemmas.Bool.{both_ways}
use Rattle.words.specs.Faults.{position}
use Rattle.words.specs.Lines.{Spot, words_at, end_at, word_checks}
use Rattle.words.specs.Tables.{First, Never, Refuses, Passes}
use Rattle.words.specs.Texts.{texts}
use Rattle.words.specs.Tokens.{Taken}
use Rattle.words.specs.declared.fault.Told.{Told}
use Rattle.words.proofs.Texts.{line_stands}
use Rattle.rows.specs.Kinds.{name_of, count_of, in_order}
use Rattle.rows.specs.Faults.{rowed, row_told}
use Rattle.rows.specs.declared.fault.RowFault.{RowFault}
use Rattle.rows.specs.Reading.{Named, behind_name, row_checks, line_checks, Reads, Refused}
use Rattle.rows.specs.Rows.{kind_of, fields_of, text_of, written}
use Rattle.rows.specs.Wants.{wants, Unfit, Ranged}
use Rattle.rows.specs.declared.kind.Kind.{Kind}
use Rattle.rows.specs.declared.kind.Stage.{Stage}
use Rattle.rows.specs.declared.row.Row.{Row}
use Rattle.rows.proofs.OneKind.{one_named}
use Rattle.fields.specs.Taking.{left_of, Checked}
use Rattle.fields.proofs.Series.{left_in, left_taken}

at_once : (p : ℕ) (X : Type 0) → X → First (λ q. (q ≡ p) × X) p
at_once p X x = record { here = (refl, x); before = λ k lt h. omega (arith, h.0) }

module _ (file : List ℕ) (p : ℕ) (stage : Stage) (nodes links : ℕ) (good : Passes (word_checks file p)) where
  behind_words : (t : Told) → Refuses (row_checks stage nodes links p (words_at file p)) t → Refuses (line_checks file p stage nodes links) t
  behind_words t h = inr (good.0, inr (good.1.0, inr (good.1.1.0, h)))

  pub row_name : (l : ℕ) (w : Spot) (ws : List Spot) → words_at file p ≡ w ∷ ws → ((k : Kind) → w.text ≡ name_of k → ⊥) → Refuses (line_checks file p stage nodes links) (rowed 11 (position l p))
  row_name l w ws cut none = behind_words (rowed 11 (position l p)) (inl (record { number = refl; layer = refl; first = at_once p _ (λ k h. none k (subst (λ (x : List Spot). Named x k) cut h)) }))

  module _ (l : ℕ) (w : Spot) (ws : List Spot) (cut : words_at file p ≡ w ∷ ws) (kind : Kind) (is : w.text ≡ name_of kind) where
    named : Named (words_at file p) kind
    named = subst (λ (x : List Spot). Named x kind) (sym cut) is

    only : (j : Kind) → Named (words_at file p) j → j ≡ kind
    only j h = one_named w (words_at file p) ws j kind cut is h

    known : Never (λ q. (q ≡ p) × ((k : Kind) → Named (words_at file p) k → ⊥))
    known k h = h.1 kind named

    pub row_order : in_order stage kind ≡ false → Refuses (line_checks file p stage nodes links) (rowed 12 (position l p))
    row_order out = behind_words (rowed 12 (position l p)) (inr (known, inl (record { number = refl; layer = refl; first = at_once p _ (kind, named, out) })))

    module _ (in' : in_order stage kind ≡ true) where
      ordered : Never (λ q. (q ≡ p) × ((k : Kind) × Named (words_at file p) k × (in_order stage k ≡ false)))
      ordered k h = both_ways _ h.1.2 (ap (in_order stage) (only h.1.0 h.1.1) ∙ in')

      pub row_count : (length (words_at file p) ≡ count_of kind → ⊥) → Refuses (line_checks file p stage nodes links) (rowed 13 (position l p))
      row_count bad = behind_words (rowed 13 (position l p)) (inr (known, inr (ordered, inl (record { number = refl; layer = refl; first = at_once p _ (kind, named, bad) }))))

      pub row_value : length (words_at file p) ≡ count_of kind → (q : ℕ) → First (Unfit (wants nodes links kind) ws) q → Refuses (line_checks file p stage nodes links) (rowed 14 (position l q))
      row_value count q bad =
          behind_words (rowed 14 (position l q))
          (inr (
            known,
            inr (
              ordered,
              inr (
                (λ k h. h.1.2 (count ∙ ap count_of (sym (only h.1.0 h.1.1)))),
                inl (record {
                  number = refl;
                  layer = refl;
                  first = record {
                    here = (kind, named, subst (λ (x : List Spot). Unfit (wants nodes links kind) (behind_name x) q) (sym cut) bad.here);
                    before = λ k lt h. bad.before k lt (subst (λ (j : Kind). Unfit (wants nodes links j) ws k) (only h.0 h.1) (subst (λ (x : List Spot). Unfit (wants nodes links h.0) (behind_name x) k) cut h.2));
                  };
                }),
              ),
            ),
          ))

      pub row_read : (e : ℕ) (row : Row) → e ≡ end_at file p → e < length file → kind_of row ≡ kind → texts ws ≡ map written (fields_of row) → Ranged nodes links row → Reads file p stage nodes links row × (e + 1 ≡ p + length (text_of row))
      row_read e row at fed k f ranged =
          let stands = line_stands file p (name_of (kind_of row) ∷ map written (fields_of row)) (omega arith) (ap texts cut ∙ (λ i. (is ∙ ap name_of (sym k)) i ∷ f i)) in
          (record { text = stands.0; order = ap (in_order stage) k ∙ in'; ranged = ranged }, omega (arith, stands.1))

-- the words behind the first
pub behind_first : (file : List ℕ) (e p p' : ℕ) (w : Spot) → end_at file p ≡ e → Taken file p p' w → words_at file p ≡ w ∷ left_of file e p'
behind_first file e p p' w is t = sym (left_in file e p (omega arith)) ∙ (left_taken file e p p' w is t).0

pub row_refused : (file : List ℕ) (p l n q : ℕ) (stage : Stage) (nodes links : ℕ) → Refuses (line_checks file p stage nodes links) (rowed n (position l q)) → Refused file p l stage nodes links (rowed n (position l q))
row_refused file p l n q stage nodes links r = record { checks = r; line = refl; node = refl }

-- a name, order or count that is wrong is refused at the row's start
pub unchecked : (file : List ℕ) (p l : ℕ) (stage : Stage) (nodes links : ℕ) → Passes (word_checks file p) → (w : Spot) (ws : List Spot) → words_at file p ≡ w ∷ ws → (count : ℕ) → count ≡ length (words_at file p) → (f : RowFault) → Checked w.text stage count (position l p) (Err f) → Refused file p l stage nodes links (row_told f)
unchecked file p l stage nodes links good w ws cut count n f (inl a) =
    subst (λ (x : RowFault). Refused file p l stage nodes links (row_told x)) (sym a.1)
    (row_refused file p l 11 p stage nodes links (row_name file p stage nodes links good l w ws cut a.0))
unchecked file p l stage nodes links good w ws cut count n f (inr (inl a)) =
    subst (λ (x : RowFault). Refused file p l stage nodes links (row_told x)) (sym a.3)
    (row_refused file p l 12 p stage nodes links (row_order file p stage nodes links good l w ws cut a.0 a.1 a.2))
unchecked file p l stage nodes links good w ws cut count n f (inr (inr a)) =
    subst (λ (x : RowFault). Refused file p l stage nodes links (row_told x)) (sym a.4)
    (row_refused file p l 13 p stage nodes links (row_count file p stage nodes links good l w ws cut a.0 a.1 a.2 (λ e. a.3 (n ∙ e))))
