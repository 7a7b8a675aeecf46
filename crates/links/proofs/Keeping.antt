-- What every yard keeps.
use Rattle.std.proofs.Common.{◌≡◌, ℕ, ◌<◌, ◌≤◌, length, sym, ap, ◌∙◌, subst, ⊎_elim, arith}
use mathlib.Core.Logic.{∥∥₁_elim}
use native.Mathlib.Nat.{ℕ_set}
use native.Mathlib.Bridge.{le_prop}
use Rattle.std.proofs.lemmas.Bool.{cases_eq, cases_lt}
use Rattle.links.specs.declared.records.Table.{Table}
use Rattle.links.specs.declared.records.Yard.{Yard}
use Rattle.line.specs.declared.shape.Part.{Part}
use Rattle.line.specs.Parts.{Sound}
use Rattle.links.specs.Tables.{lane_at, Gauge, Lies, Marked}
use Rattle.links.specs.Yards.{gauge_of, Laid, AllFull, InRing}
use Rattle.links.proofs.Turning.{full_of}

pub lies_prop : (wide : ℕ) (t : Table) → IsProp (Lies wide t)
lies_prop wide t a b = λ z. record {
  whole = ℕ_set _ _ a.whole b.whole z;
  placed = λ k l. le_prop (a.placed k l) (b.placed k l) z;
  sound = λ k l. record { inside = le_prop (a.sound k l).inside (b.sound k l).inside z; fits = le_prop (a.sound k l).fits (b.sound k l).fits z };
  apart = λ j k l h. le_prop (a.apart j k l h) (b.apart j k l h) z;
}

pub laid_of : (y : Yard) → Laid y
laid_of y = ∥∥₁_elim y.laid (lies_prop (length y.area.now) y.table) (λ l. l)

pub all_full : (y : Yard) → AllFull y
all_full y = record { whole = (laid_of y).whole; ons = λ i l. full_of _; offs = λ i l. full_of _ }

-- the oldest stay in their rings where the readings of the links below n are noted, and those of the others are as they were
pub ring_noted : (y y' : Yard) (n : ℕ) → ((i : ℕ) → i < n → ((gauge_of y' i).ons.oldest ≤ 64) × ((gauge_of y' i).offs.oldest ≤ 64))
    → ((i : ℕ) → n ≤ i → gauge_of y' i ≡ gauge_of y i) → InRing y → InRing y'
ring_noted y y' n noted others ring = record {
  ons = λ i h. ⊎_elim (λ (l : i < n). (noted i l).0) (λ (l : n ≤ i). subst (λ (g : Gauge). g.ons.oldest ≤ 64) (sym (others i l)) (ring.ons i h)) (cases_lt i n);
  offs = λ i h. ⊎_elim (λ (l : i < n). (noted i l).1) (λ (l : n ≤ i). subst (λ (g : Gauge). g.offs.oldest ≤ 64) (sym (others i l)) (ring.offs i h)) (cases_lt i n);
}

-- so they do where none is noted
pub ring_still : (y y' : Yard) → ((i : ℕ) → gauge_of y' i ≡ gauge_of y i) → InRing y → InRing y'
ring_still y y' same = ring_noted y y' 0 (λ i l. absurd (omega arith)) (λ i l. same i)

-- lanes that lie where they lay
pub lies_on : (w w' : ℕ) (t t' : Table) → Lies w t → w' ≡ w → length t'.links ≡ length t.links
    → ((j : ℕ) → (lane_at t' j).start ≡ (lane_at t j).start) → ((j : ℕ) → (lane_at t' j).size ≡ (lane_at t j).size)
    → ((j : ℕ) → j < 96 → Sound (lane_at t' j)) → Lies w' t'
lies_on w w' t t' l wide whole starts sizes sound = record {
  whole = whole ∙ l.whole;
  placed = λ k h. omega (arith, l.placed k h, wide, starts k, sizes k);
  sound = sound;
  apart = λ j k lt h. omega (arith, l.apart j k lt h, starts j, sizes j, starts k);
}

-- the lane k, read out as p, is put back in the same place
module _ (t t' : Table) (k : ℕ) (p l : Part) (read : p ≡ lane_at t k) (put_in : Marked t k l t') (start : l.start ≡ p.start) (size : l.size ≡ p.size) where
  as_read : {A : Type 0} (f : Part → A) → f l ≡ f p → (j : ℕ) → f (lane_at t' j) ≡ f (lane_at t j)
  as_read f e j = ⊎_elim (λ (q : j ≡ k). subst (λ i. f (lane_at t' i) ≡ f (lane_at t i)) (sym q) (ap f put_in.here ∙ e ∙ ap f read)) (λ ne. ap f (put_in.others j ne)) (cases_eq j k)

  pub starts_kept : (j : ℕ) → (lane_at t' j).start ≡ (lane_at t j).start
  starts_kept = as_read (λ (x : Part). x.start) start

  pub sizes_kept : (j : ℕ) → (lane_at t' j).size ≡ (lane_at t j).size
  sizes_kept = as_read (λ (x : Part). x.size) size

  pub lies_put : (w w' : ℕ) → Lies w t → w' ≡ w → Sound l → Lies w' t'
  lies_put w w' lies wide sound = lies_on w w' t t' lies wide put_in.whole starts_kept sizes_kept
      (λ j h. ⊎_elim (λ (q : j ≡ k). subst Sound (sym (ap (lane_at t') q ∙ put_in.here)) sound) (λ ne. subst Sound (sym (put_in.others j ne)) (lies.sound j h)) (cases_eq j k))
