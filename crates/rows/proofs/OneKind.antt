-- A name is of one kind. Assumes nothing.
use Rattle.std.proofs.Common.{◌≡◌, ℕ, cond, eqb, List, ◌∷◌, get_or, sym, refl, ap, ◌∙◌, subst}
use Rattle.words.specs.Lines.{Spot}
use Rattle.rows.specs.Kinds.{name_of}
use Rattle.rows.specs.Reading.{Named}
use Rattle.rows.specs.declared.kind.Kind.{Kind}
use Rattle.rows.specs.declared.kind.Kind.TheVariants.{Net, Link, Route, Merge, Meter, Go, Book, Step, Show}

-- the kind of a name, found again
abbrev kind_at : List ℕ → Kind
kind_at t =
    cond (eqb (get_or t 2 0) 116) (cond (eqb (get_or t 0 0) 110) Net Meter)
    (cond (eqb (get_or t 0 0) 108) Link
    (cond (eqb (get_or t 0 0) 114) Route
    (cond (eqb (get_or t 0 0) 109) Merge
    (cond (eqb (get_or t 0 0) 103) Go
    (cond (eqb (get_or t 0 0) 98) Book
    (cond (eqb (get_or t 1 0) 116) Step Show))))))

found_again : (k : Kind) → kind_at (name_of k) ≡ k
found_again Net = refl
found_again Link = refl
found_again Route = refl
found_again Merge = refl
found_again Meter = refl
found_again Go = refl
found_again Book = refl
found_again Step = refl
found_again Show = refl

pub one_kind : (t : List ℕ) (j k : Kind) → t ≡ name_of j → t ≡ name_of k → j ≡ k
one_kind t j k a b = sym (found_again j) ∙ ap kind_at (sym a ∙ b) ∙ found_again k

pub one_named : (w : Spot) (all ws : List Spot) (j k : Kind) → all ≡ w ∷ ws → w.text ≡ name_of k → Named all j → j ≡ k
one_named w all ws j k e is h = one_kind w.text j k (subst (λ (x : List Spot). Named x j) e h) is
