-- Readings that are noted.
use Rattle.std.proofs.Common.{◌≡◌, ℕ, ◌-◌, cond, ltb, ◌≢◌, length, get_or, Option, sym, ap, subst, ap₂, ⊎_elim}
use Rattle.std.proofs.lemmas.Bool.{cases_eq}
use Rattle.line.specs.declared.shape.Part.{Part}
use Rattle.line.specs.Parts.{Sound, queue}
use Rattle.line.specs.Spots.{spots_in}
use Rattle.links.specs.declared.records.LinkRecord.{LinkRecord}
use Rattle.links.specs.declared.records.Table.{Table}
use Rattle.links.specs.declared.records.Yard.{Yard}
use Rattle.links.specs.Tables.{record_at, lane_at, gauge_in, Read, Changed, Lies}
use Rattle.links.specs.Yards.{holds, start_of, size_of, spots_of, NotedAt}
use Rattle.links.proofs.Keeping.{laid_of, all_full, lies_on}

module _ (t t' : Table) (i on off : ℕ) (time : Option ℕ) (read : Read (record_at t i) on off time (record_at t' i)) (rest : Changed t i t') where
  -- a part of the records that noting leaves as it was
  kept : {A : Type 0} (f : LinkRecord → A) → f (record_at t' i) ≡ f (record_at t i) → (k : ℕ) → f (record_at t' k) ≡ f (record_at t k)
  kept f e k = ⊎_elim (λ (q : k ≡ i). subst (λ j. f (record_at t' j) ≡ f (record_at t j)) (sym q) e) (λ (ne : k ≢ i). ap f (rest.others k ne)) (cases_eq k i)

  pub lanes_kept : (l : ℕ) → lane_at t' l ≡ lane_at t l
  lanes_kept l = ap₂ (λ a b. cond (ltb l 48) a b) (kept (λ (r : LinkRecord). r.road) read.road l) (kept (λ (r : LinkRecord). r.queue) read.queue (l - 48))

  pub lies_noted : (w w' : ℕ) → Lies w t → w' ≡ w → Lies w' t'
  lies_noted w w' lies wide = lies_on w w' t t' lies wide rest.whole (λ l. ap (λ (x : Part). x.start) (lanes_kept l)) (λ l. ap (λ (x : Part). x.size) (lanes_kept l))
      (λ l h. subst Sound (sym (lanes_kept l)) (lies.sound l h))

module _ (y y' : Yard) (i on off : ℕ) (time : Option ℕ) (read : Read (record_at y.table i) on off time (record_at y'.table i)) (rest : Changed y.table i y'.table)
    (area : y'.area.now ≡ y.area.now) (tied : y'.area.ghost_name ≡ y.area.ghost_name) where
  lanes : (l : ℕ) → lane_at y'.table l ≡ lane_at y.table l
  lanes = lanes_kept y.table y'.table i on off time read rest

  pub noted_at : NotedAt y i on off time y'
  unfolding holds start_of size_of spots_of
  noted_at = record {
    here = read.noted;
    others = λ k ne. ap gauge_in (rest.others k ne);
    full = all_full y';
    lanes = lanes;
    holds = λ l. ap₂ queue area (lanes l);
    spots = λ l. ap₂ spots_in area (lanes l);
    beyond = record {
      starts = λ l. ap (λ (x : Part). x.start) (lanes l);
      sizes = λ l. ap (λ (x : Part). x.size) (lanes l);
      wide = ap length area;
      outside = λ q d f. ap (λ a. get_or a q d) area;
    };
    sizes = λ l. ap (λ (x : Part). x.size) (lanes l);
    laid = λ laid. laid_of y';
    area = area;
    same = tied;
  }
