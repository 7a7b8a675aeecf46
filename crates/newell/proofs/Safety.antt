-- What code may count on at each moment.
use Rattle.std.proofs.Common.{◌≡◌, ℕ, zero, suc, ◌+◌, ◌-◌, ◌*◌, ◌<◌, ◌≤◌, ◌⊎◌, List, [], ◌∷◌, length, sym, refl, ap, ◌∙◌, subst, inl, inr, le_trans, add-one, arith, length-append, length-drop, eq-eqb, ne_eqb, le-leb}
use mathlib.Core.Logic.{∥∥₁_elim}
use native.Mathlib.Bridge.{le_prop}
use lib.ListN.{length-replicate}
use Rattle.std.specs.List.{AllByRecursion}
use Rattle.std.proofs.ByRecursion.{All-from_get_or, All-drop}
use Rattle.std.proofs.lemmas.List.{append-nil}
use Rattle.std.proofs.lemmas.Bool.{cases_eq}
use Rattle.network.specs.Net.{Net, Sound, Entrance}
use Rattle.merge.specs.Rules.{Meaning}
use Rattle.newell.specs.Plain.{Curves, U, V, waiting}
use Rattle.newell.proofs.Timeline.{Timeline}
use Rattle.newell.specs.History.{History, book, step, ask_link, ask_entrance, ask_exit, told, refused, clock, booked, handed, Follows}
use Rattle.newell.specs.Now.{RunNow, Shows, SafeLink, Safe, ReachedSafe, Reached}
use Rattle.network.proofs.Places.{In, left_from}
use Rattle.newell.proofs.Bounds.{inn, u_mono, v_mono, v_le_u, free_first, storage, capacity_in, since}
use Rattle.newell.proofs.Timeline.{timeline, passed, booked_late, early}

module _ (net : Net) (sound : Sound net) (c : Curves) (T : ℕ) (booked : ℕ → ℕ → List ℕ) (m : ℕ → Meaning) (lawful : Timeline net c T booked m) where
  pub sending : (i t : ℕ) → i < net.links → t ≤ T → V net c i t ≤ U net c i (t - ((net.link i).free - 1))
  sending i t k l = le_trans (free_first net sound c T booked m lawful i t k l)
      (u_mono net sound c T booked m lawful i (t - (net.link i).free) (t - ((net.link i).free - 1)) k (omega arith) (omega arith))

  pub taking : (i t : ℕ) → i < net.links → t ≤ T → U net c i t ≤ V net c i (t - ((net.link i).wave - 1)) + (net.link i).storage
  taking i zero k l = omega (arith, ap length (lawful.new_came i k))
  taking i (suc t) k l = let r = taking i t k (omega arith) in let w = (sound.link i k).wave_least in
      let e : t + 1 - (net.link i).wave ≡ t - ((net.link i).wave - 1) = omega arith in
      let q = inn net sound c T booked m lawful t i l k in
      let v = v_mono net sound c T booked m lawful i (t - ((net.link i).wave - 1)) (t + 1 - ((net.link i).wave - 1)) k (omega arith) (omega arith) in
      let x = subst (λ (s : ℕ). U net c i (t + 1) ≤ U net c i t + (V net c i s + (net.link i).storage - U net c i t)) e (omega arith) in
      rw (← add-one t) (omega arith)

  small : (i t : ℕ) → i < net.links → t ≤ T → U net c i t ≤ 200 * t
  small i zero k l = omega (arith, ap length (lawful.new_came i k))
  small i (suc t) k l = let r = small i t k (omega arith) in let q = capacity_in net sound c T booked m lawful i t k l in
      rw (← add-one t) (omega (arith, (sound.link i k).capacity_most))

  stamped : (i t : ℕ) → i < net.links → t ≤ T → AllByRecursion (λ v. v.since ≤ t) (c.came i t)
  stamped i t k l = All-from_get_or _ (c.came i t) (record { exit = 0; since = 0 }) (λ q b. (since net sound c T booked m lawful i t q (record { exit = 0; since = 0 }) k l b).now)

queue_most : (net : Net) (sound : Sound net) (c : Curves) (h : History) → Follows net c h → (e j : ℕ) → Entrance net e j
    → length (waiting net c (booked h (clock h) e) j (clock h)) ≤ 500
queue_most net sound c [] f e j en = simp length-drop (omega arith)
queue_most net sound c (book e' x n (told u) ∷ h) f e j en = go (cases_eq e' e) (queue_most net sound c h f.0 e j en)
  where
    go : (e' ≡ e) ⊎ (e' ≡ e → ⊥) → length (waiting net c (booked h (clock h) e) j (clock h)) ≤ 500
        → length (waiting net c (booked (book e' x n (told u) ∷ h) (clock h) e) j (clock h)) ≤ 500
    go (inl q) r = let p = (passed (passed (passed (passed (passed f.1).1).1).1).1).0 in
        let w : length (waiting net c (booked h (clock h) e) j (clock h)) + n ≤ 500 = subst (λ (y : ℕ). length (waiting net c (booked h (clock h) y) j (clock h)) + n ≤ 500) q (p j (subst (λ y. Entrance net y j) (sym q) en)) in
        rw (le-leb (clock h) (clock h) (omega arith), eq-eqb e' e q) (simp (length-drop, length-append, length-replicate)
        (omega (arith, w, length-drop (U net c j (clock h)) (booked h (clock h) e))))
    go (inr q) r = rw (le-leb (clock h) (clock h) (omega arith), ne_eqb e' e q) (rw (append-nil (booked h (clock h) e)) r)
queue_most net sound c (book e' x n (refused k) ∷ h) f e j en = queue_most net sound c h f.0 e j en
queue_most net sound c (step m rows (told u) m' rows' ∷ h) f e j en =
    let r = queue_most net sound c h f.0 e j en in let k = (left_from net e j (subst (In j) (sym en.1) (inl refl))).0 in
    let u = u_mono net sound c (clock h + 1) (booked h) (handed (step m rows (told u) m' rows' ∷ h)) (timeline net c (step m rows (told u) m' rows' ∷ h) f) j (clock h) (clock h + 1) k (omega arith) (omega arith) in
    simp length-drop (omega (arith, r, u, length-drop (U net c j (clock h)) (booked h (clock h) e), ap length (booked_late h (clock h + 1) (clock h) e (omega arith) (omega arith))))
queue_most net sound c (step m rows (refused k) m' rows' ∷ h) f e j en = queue_most net sound c h f.0 e j en
queue_most net sound c (ask_link n r ∷ h) f e j en = queue_most net sound c h f.0 e j en
queue_most net sound c (ask_entrance e' r ∷ h) f e j en = queue_most net sound c h f.0 e j en
queue_most net sound c (ask_exit x r ∷ h) f e j en = queue_most net sound c h f.0 e j en

pub reached_safe : ReachedSafe
reached_safe net r h at = record {
  early = omega (arith, at.shows.time, early net c h at.follows);
  link = links;
  queue = λ e j en. let p = left_from net e j (subst (In j) (sym en.1) (inl refl)) in
      let w : r.queue j ≡ waiting net c (booked h (clock h) e) j (clock h) = subst (λ y. r.queue j ≡ waiting net c (booked h (clock h) y) j (clock h)) p.1 (at.shows.queue j p.0) in
      omega (arith, ap length w, queue_most net sound c h at.follows e j en);
}
  where
    sound : Sound net
    sound = at.sound

    c : Curves
    c = at.curves

    shows : Shows net c h r
    shows = at.shows

    lawful : Timeline net c (clock h) (booked h) (handed h)
    lawful = timeline net c h at.follows

    links : (i : ℕ) → i < net.links → SafeLink net r i
    links i k =
        let s = sound.link i k in
        let u : (r.link i).ons 0 ≡ U net c i (clock h) = shows.ons i 0 k (omega arith) ∙ ap (U net c i) (omega arith) in
        let v : (r.link i).offs 0 ≡ V net c i (clock h) = shows.offs i 0 k (omega arith) ∙ ap (V net c i) (omega arith) in
        let n : length (r.link i).cars ≡ U net c i (clock h) - V net c i (clock h) = ap length (shows.cars i k) ∙ length-drop (V net c i (clock h)) (c.came i (clock h)) in
        let w = v_le_u net sound c (clock h) (booked h) (handed h) lawful i (clock h) k (omega arith) in
        record {
          sending = omega (arith, u, v, shows.ons i ((net.link i).free - 1) k (omega arith), sending net sound c (clock h) (booked h) (handed h) lawful i (clock h) k (omega arith));
          queueing = omega (arith, u, v, shows.ons i (net.link i).free k s.free_most, free_first net sound c (clock h) (booked h) (handed h) lawful i (clock h) k (omega arith));
          taking = omega (arith, u, v, shows.offs i ((net.link i).wave - 1) k (omega arith), taking net sound c (clock h) (booked h) (handed h) lawful i (clock h) k (omega arith));
          arriving = omega (arith, u, shows.ons i ((net.link i).free - 1) k (omega arith), u_mono net sound c (clock h) (booked h) (handed h) lawful i (clock h - ((net.link i).free - 1)) (clock h) k (omega arith) (omega arith));
          waving = omega (arith, v, shows.offs i ((net.link i).wave - 1) k (omega arith), v_mono net sound c (clock h) (booked h) (handed h) lawful i (clock h - ((net.link i).wave - 1)) (clock h) k (omega arith) (omega arith));
          holding = omega arith;
          room = omega (arith, storage net sound c (clock h) (booked h) (handed h) lawful i (clock h) k (omega arith));
          small = omega (arith, u, shows.time, small net sound c (clock h) (booked h) (handed h) lawful i (clock h) k (omega arith));
          since = subst (λ (t : ℕ). AllByRecursion (λ v. v.since ≤ t) (r.link i).cars) (sym shows.time) (subst (AllByRecursion (λ v. v.since ≤ clock h)) (sym (shows.cars i k))
              (All-drop _ (V net c i (clock h)) (c.came i (clock h)) (stamped net sound c (clock h) (booked h) (handed h) lawful i (clock h) k (omega arith))));
        }

-- of a run that some calls led to: the facts that code needs
pub reached_le : (net : Net) (r : RunNow) (a b : ℕ) → Reached net r → (Sound net → Safe net r → a ≤ b) → a ≤ b
reached_le net r a b t f = ∥∥₁_elim t le_prop (λ q. f q.1.sound (reached_safe net r q.0 q.1))
