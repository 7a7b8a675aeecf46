-- Texts one behind the other, and rows that go on. Assumes nothing.
use Rattle.std.proofs.Common.{◌≡◌, ℕ, ◌+◌, ◌-◌, ◌<◌, ◌≤◌, List, [], ◌∷◌, ◌++◌, length, take, drop, sym, refl, ap, ◌∙◌, subst, inl, inr, arith}
use Rattle.std.proofs.lemmas.List.{append_assoc, take-append-drop, take_at, length-append, drop-drop}
use Rattle.words.specs.Tables.{First, Refuses, Passes}
use Rattle.words.specs.Texts.{Stands, spaced}
use Rattle.words.specs.declared.fault.Told.{Told}
use Rattle.words.specs.declared.position.Position.{Position}
use Rattle.rows.specs.Reading.{Reads, Refused as RefusedLine}
use Rattle.rows.specs.Rows.{text_of, spelled}
use Rattle.rows.specs.declared.kind.Stage.{Stage}
use Rattle.rows.specs.declared.kind.Stage.TheVariants.{Calls}
use Rattle.rows.specs.declared.row.Row.{Row}
use Rattle.reader.specs.Checks.{file_checks, NodeTold}
use Rattle.reader.specs.Files.{Upto, Refused, RefusedAt}
use Rattle.reader.specs.Heads.{Got, NoRow}
use Rattle.reader.specs.Said.{shown, net_said, wanted, stage_of, Said, said_by}

pub stands_split : (bytes : List ℕ) (p : ℕ) (t : List ℕ) → Stands bytes p t → drop p bytes ≡ t ++ drop (p + length t) bytes
stands_split bytes p t s =
    sym (take-append-drop (length t) (drop p bytes)) ∙ (λ i. s i ++ drop-drop (length t) p bytes i)

pub stands_from : (bytes : List ℕ) (p : ℕ) (t rest : List ℕ) → drop p bytes ≡ t ++ rest → Stands bytes p t
stands_from bytes p t rest e = ap (take (length t)) e ∙ take_at t rest (length t) refl

pub stands_more : (bytes : List ℕ) (p : ℕ) (s t : List ℕ) → Stands bytes p s → Stands bytes (p + length s) t → Stands bytes p (s ++ t)
stands_more bytes p s t a b =
    stands_from bytes p (s ++ t) (drop (p + length s + length t) bytes)
    (stands_split bytes p s a ∙ ap (λ (x : List ℕ). s ++ x) (stands_split bytes (p + length s) t b) ∙ sym (append_assoc s t (drop (p + length s + length t) bytes)))

pub upto_none : (bytes : List ℕ) (l p : ℕ) → Upto bytes l p [] l p
upto_none bytes l p = record { text = refl; sound = tt; line = omega arith; place = omega arith }

pub upto_more : (bytes : List ℕ) (l₀ p₀ : ℕ) (rows : List Row) (l p : ℕ) (r : Row) (l' p' : ℕ) → Upto bytes l₀ p₀ rows l p → (stage_of rows ≡ Calls → ⊥) → Reads bytes p (stage_of rows) (net_said rows).nodes (wanted rows) r → ((q : ℕ) → Passes (file_checks rows r q)) → p' ≡ p + length (text_of r) → l' ≡ l + 1 → Upto bytes l₀ p₀ (r ∷ rows) l' p'
upto_more bytes l₀ p₀ rows l p r l' p' u going reads passes on next = record {
  text = stands_more bytes p₀ (shown rows) (text_of r) u.text (subst (λ q. Stands bytes q (text_of r)) u.place reads.text);
  sound = (u.sound, record { going = going; order = reads.order; ranged = reads.ranged; passes = passes });
  line = omega (arith, u.line);
  place = omega (arith, u.place, length-append (shown rows) (text_of r));
}

pub at_start : (p : ℕ) (X : Type 0) → X → First (λ q. (q ≡ p) × X) p
at_start p X x = record { here = (refl, x); before = λ k lt h. omega (arith, h.0) }

module _ (file : List ℕ) (l₀ p₀ l p : ℕ) (stage : Stage) (nodes links : ℕ) (s : Said) (g : Got file l₀ p₀ l p stage nodes links s) (going : stage ≡ Calls → ⊥) where
  -- what the rows so far say is what the reader holds
  as_rows : (P : Stage → ℕ → ℕ → Type 0) → P stage nodes links → P (stage_of g.rows) (net_said g.rows).nodes (wanted g.rows)
  as_rows P x = subst (λ (y : Stage × ℕ × ℕ). P y.0 y.1 y.2) (sym (λ i. (g.stage i, g.nodes i, g.links i))) x

  pub goes_on : stage_of g.rows ≡ Calls → ⊥
  goes_on e = going (sym g.stage ∙ e)

  pub refused_line : (t : Told) → NoRow file p l stage nodes links t → Refused file l₀ p₀ t
  refused_line t h = record { rows = g.rows; line = l; place = p; read = g.upto; going = goes_on; here = here h }
    where
      here : NoRow file p l stage nodes links t → RefusedAt file g.rows l p t
      here (inl a) = inl a
      here (inr a) = inr (inl (a.0, as_rows (λ y m k. RefusedLine file p l y m k t) a.1))

  module _ (r : Row) (reads : Reads file p stage nodes links r) where
    pub reads' : Reads file p (stage_of g.rows) (net_said g.rows).nodes (wanted g.rows) r
    reads' = as_rows (λ y m k. Reads file p y m k r) reads

    pub refused_row : (t : Told) → Refuses (file_checks g.rows r p) t → t.line ≡ l → NodeTold g.rows r t → Refused file l₀ p₀ t
    refused_row t bad at node = record { rows = g.rows; line = l; place = p; read = g.upto; going = goes_on; here = inr (inr (r, reads', bad, at, node)) }

    pub got_more : (l' p' : ℕ) (stage' : Stage) (s' : Said) → ((q : ℕ) → Passes (file_checks g.rows r q)) → p' ≡ p + length (text_of r) → l' ≡ l + 1 → stage_of (r ∷ g.rows) ≡ stage' → (net_said (r ∷ g.rows)).nodes ≡ nodes → wanted (r ∷ g.rows) ≡ links → said_by (r ∷ g.rows) ≡ s' → Got file l₀ p₀ l' p' stage' nodes links s'
    got_more l' p' stage' s' passes on next st n k says = record {
      rows = r ∷ g.rows;
      upto = upto_more file l₀ p₀ g.rows l p r l' p' g.upto goes_on reads' passes on next;
      stage = st;
      nodes = n;
      links = k;
      says = says;
    }

-- what the reader found no row in is its own file f
pub refused_in : (file f : List ℕ) (l₀ p₀ : ℕ) (a : Position) (stage : Stage) (nodes links : ℕ) (s : Said) → f ≡ file → Got file l₀ p₀ a.line a.place stage nodes links s → (stage ≡ Calls → ⊥) → (t : Told) → NoRow f a.place a.line stage nodes links t → Refused file l₀ p₀ t
refused_in file f l₀ p₀ a stage nodes links s same g going t none =
    refused_line file l₀ p₀ a.line a.place stage nodes links s g going t (subst (λ (x : List ℕ). NoRow x a.place a.line stage nodes links t) same none)

-- the row r' was read of the reader's own file f
pub step_as : (file f : List ℕ) (p l : ℕ) (stage : Stage) (nodes links : ℕ) (r r' : Row) (p' l' : ℕ) → f ≡ file → r' ≡ r → Reads f p stage nodes links r' × (p' ≡ p + length (text_of r')) × (l' ≡ l + 1) → Reads file p stage nodes links r × (p' ≡ p + length (text_of r)) × (l' ≡ l + 1)
step_as file f p l stage nodes links r r' p' l' same is h =
    subst (λ (x : List ℕ). Reads x p stage nodes links r × (p' ≡ p + length (text_of r)) × (l' ≡ l + 1)) same
    (subst (λ (x : Row). Reads f p stage nodes links x × (p' ≡ p + length (text_of x)) × (l' ≡ l + 1)) is h)

pub text_some : (r : Row) → 0 < length (text_of r)
text_some r = omega (arith, length-append (spaced (spelled r)) (10 ∷ []))

-- what is left of the file grows less with each row
pub falls : (file f : List ℕ) (p p' : ℕ) (r : Row) → f ≡ file → p' ≤ length f → p' ≡ p + length (text_of r) → length file - p' < length file - p
falls file f p p' r same in' on = omega (arith, text_some r, ap length same)
