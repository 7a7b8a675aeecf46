-- The records of a run just opened.
use Rattle.std.proofs.Common.{◌≡◌, ℕ, zero, suc, ◌+◌, ◌-◌, ◌*◌, ◌<◌, ◌≤◌, Bool, true, false, cond, ltb, ◌≢◌, List, [], ◌∷◌, length, get_or, set, replicate, sym, refl, ap, ◌∙◌, subst, ap₂, ⊎_elim, suc-add, zero-add, add-zero, add-one, arith, below_more, le-ltb, lt-ltb}
use Rattle.std.proofs.lemmas.List.{get_or-set_same, get_or-set_other}
use Rattle.std.proofs.lemmas.List.Sums.{sum_by-cons}
use Rattle.std.proofs.lemmas.Bool.{cond-true, cond-false, cases_lt}
use Rattle.std.specs.List.{sum_by, range_with_len}
use Rattle.network.specs.declared.network.Network.{Network}
use Rattle.network.specs.Nets.{net_of}
use Rattle.network.proofs.Rights.{right_of}
use Rattle.network.specs.Net.{Net, Entrance, entering}
use Rattle.links.specs.declared.records.LinkRecord.{LinkRecord}
use Rattle.line.specs.Parts.{Sound, fresh, queue}
use Rattle.links.specs.Tables.{blank_record, fresh_curve, lane_at, Gauge, gauge_in, Lies}
use Rattle.network.proofs.Sorts.{off₁}
use Rattle.newell.specs.Now.{Opened}
use Rattle.line.specs.declared.shape.Part.{Part}
use Rattle.links.specs.declared.records.Table.{Table}
use Rattle.links.specs.declared.records.Yard.{Yard}
use Rattle.links.proofs.Keeping.{laid_of, all_full}
use Rattle.links.specs.Readings.{back}
use Rattle.links.specs.Yards.{holds, size_of, gauge_of, InRing}
use Rattle.flow.specs.Flows.{exits}
use Rattle.flow.proofs.Pulling.{exits_nil}
use Rattle.plan.specs.View.{view_of}
use Rattle.step.specs.Steps.{Built}
use Rattle.run.specs.Opens.{waiting_slots, road_size, queue_size, size_at, offset, entries_for, fresh_gauge, fresh_at, Fresh}

pub offset_none : (net : Net) → 0 ≡ offset net 0
unfolding offset
offset_none net = refl

pub offset_step : (net : Net) (k : ℕ) → offset net (suc k) ≡ offset net k + size_at net k
unfolding offset
offset_step net k = refl

-- a lane of a link, and a lane of those who wait for it
pub size_road : (net : Net) (i : ℕ) → i < 48 → size_at net i ≡ road_size net i
size_road net i l = cond-true (ltb i 48) _ _ (lt-ltb i 48 l)

pub size_queue : (net : Net) (i : ℕ) → size_at net (48 + i) ≡ queue_size net i
size_queue net i = cond-false (ltb (48 + i) 48) _ _ (le-ltb (48 + i) 48 (omega arith)) ∙ ap (queue_size net) (let e : 48 + i - 48 ≡ i = omega arith in e)

pub offset_road : (net : Net) (at i size : ℕ) → i < 48 → at ≡ offset net i → size ≡ road_size net i → at + size ≡ offset net (i + 1)
offset_road net at i size l e s = ap₂ ◌+◌ e (s ∙ sym (size_road net i l)) ∙ (sym (offset_step net i) ∙ ap (offset net) (sym (add-one i)))

pub offset_queue : (net : Net) (at i size : ℕ) → i < 48 → at ≡ offset net (48 + i) → size ≡ queue_size net i → at + size ≡ offset net (48 + (i + 1))
offset_queue net at i size l e s =
    ap₂ ◌+◌ e (s ∙ sym (size_queue net i)) ∙ (sym (offset_step net (48 + i)) ∙ ap (offset net) (let q : suc (48 + i) ≡ 48 + (i + 1) = omega arith in q))

-- A sum over a range goes from the place before its first to the place behind its last.
summed : (at f : ℕ → ℕ) (top : ℕ) → ((k : ℕ) → k < top → at k + f k ≡ at (k + 1)) → (a n : ℕ) → a + n ≤ top → at a + sum_by f (range_with_len a n) ≡ at (a + n)
summed at f top step a zero l = simp add-zero
summed at f top step a (suc n) l =
    let c = sum_by-cons f a (range_with_len (a + 1) n) in
    let h = summed at f top step (a + 1) n (omega arith) in
    let e : a + 1 + n ≡ a + suc n = omega arith in
    omega (arith, c, step a (omega arith), h, ap at e)

pub roads_sum : (net : Net) → sum_by (road_size net) (range_with_len 0 48) ≡ offset net 48
roads_sum net = omega (arith, offset_none net, summed (offset net) (road_size net) 48 (λ k l. offset_road net _ k _ l refl refl) 0 48 (omega arith))

pub queues_sum : (net : Net) → offset net 48 + sum_by (queue_size net) (range_with_len 0 48) ≡ offset net 96
queues_sum net = summed (λ k. offset net (48 + k)) (queue_size net) 48 (λ k l. offset_queue net _ k _ l refl refl) 0 48 (omega arith)

-- no lane has more slots than a link may store
either_small : (b : Bool) (x y m : ℕ) → x ≤ m → y ≤ m → cond b x y ≤ m
either_small true x y m h k = h
either_small false x y m h k = k

waiting_small : (xs : List ℕ) → waiting_slots xs ≤ 2000
waiting_small [] = omega arith
waiting_small (x ∷ xs) = omega arith

road_small : (n : Network) (i : ℕ) → road_size (net_of n) i ≤ 2000
road_small n i = let net = net_of n in ⊎_elim
    (λ (l : i < net.links). rw (cond-true (ltb i net.links) (net.link i).storage 0 (lt-ltb i net.links l)) ((right_of n).link i l).storage_most)
    (λ (l : net.links ≤ i). rw (cond-false (ltb i net.links) (net.link i).storage 0 (le-ltb i net.links l)) (omega arith))
    (cases_lt i net.links)

size_small : (n : Network) (k : ℕ) → size_at (net_of n) k ≤ 2000
size_small n k =
    let net = net_of n in
    either_small (ltb k 48) (road_size net k) (queue_size net (k - 48)) 2000 (road_small n k) (either_small (ltb (k - 48) net.links) (waiting_slots (entering net (net.link (k - 48)).from)) 0 2000 (waiting_small _) (omega arith))

pub offset_small : (n : Network) (k : ℕ) → offset (net_of n) k ≤ 2000 * k
offset_small n zero = omega (arith, offset_none (net_of n))
offset_small n (suc k) = omega (arith, offset_step (net_of n) k, offset_small n k, size_small n k)

pub fresh_more : (net : Net) (rs : List LinkRecord) (i : ℕ) (x : LinkRecord) → i < length rs → x ≡ fresh_at net i
    → ((k : ℕ) → k < i → get_or rs k blank_record ≡ fresh_at net k) → (k : ℕ) → k < i + 1 → get_or (set rs i x) k blank_record ≡ fresh_at net k
fresh_more net rs i x l e all =
    below_more _ _ (λ k h. let ne : k ≢ i = omega arith in get_or-set_other rs i k x blank_record ne ∙ all k h) (get_or-set_same rs i x blank_record l ∙ e)

grows : (net : Net) (j d : ℕ) → offset net j ≤ offset net (d + j)
grows net j zero = rw zero-add (omega arith)
grows net j (suc d) = rw suc-add (let h = grows net j d in omega (arith, h, offset_step net (d + j)))

up : (net : Net) (j k : ℕ) → j ≤ k → offset net j ≤ offset net k
up net j k l = let e : (k - j) + j ≡ k = omega arith in subst (λ q. offset net j ≤ offset net q) e (grows net j (k - j))

zeros : (m i z : ℕ) → get_or (replicate m z) i z ≡ z
zeros zero i z = refl
zeros (suc m) zero z = refl
zeros (suc m) (suc i) z = zeros m i z

fresh_back : (q : ℕ) → back fresh_curve q ≡ 0
unfolding back
fresh_back q = zeros 64 (63 - q) 0

fresh_sound : (start size : ℕ) → Sound (fresh start size)
fresh_sound start size = record { inside = omega arith; fits = omega arith }

module _ (net : Net) (t : Table) (new : Fresh net t) where
  lane_is : (k : ℕ) → k < 96 → lane_at t k ≡ fresh (offset net k) (size_at net k)
  lane_is k h = ⊎_elim
      (λ (l : k < 48). cond-true (ltb k 48) _ _ (lt-ltb k 48 l) ∙ (ap (λ (r : LinkRecord). r.road) (new.each k l) ∙ ap (fresh (offset net k)) (sym (size_road net k l))))
      (λ (l : 48 ≤ k).
      let e : 48 + (k - 48) ≡ k = omega arith in
      cond-false (ltb k 48) _ _ (le-ltb k 48 l)
      ∙ (ap (λ (r : LinkRecord). r.queue) (new.each (k - 48) (omega arith))
      ∙ (ap (fresh (offset net (48 + (k - 48)))) (sym (size_queue net (k - 48))) ∙ ap (λ q. fresh (offset net q) (size_at net q)) e)))
      (cases_lt k 48)

  start_is : (k : ℕ) → k < 96 → (lane_at t k).start ≡ offset net k
  start_is k h = ap (λ (l : Part). l.start) (lane_is k h)

  size_is : (k : ℕ) → k < 96 → (lane_at t k).size ≡ size_at net k
  size_is k h = ap (λ (l : Part). l.size) (lane_is k h)

  pub lies : (wide : ℕ) → entries_for net ≤ wide → Lies wide t
  lies wide room = record {
    whole = new.whole;
    placed = λ k h. let u = up net (suc k) 96 h in omega (arith, start_is k h, size_is k h, room, u, offset_step net k);
    sound = λ k h. subst Sound (sym (lane_is k h)) (fresh_sound (offset net k) (size_at net k));
    apart = λ j k l h. let g : j < 96 = omega arith in let u = up net (suc j) k l in omega (arith, start_is j g, size_is j g, start_is k h, u, offset_step net j);
  }

module _ (net : Net) (y : Yard) (few : net.links ≤ 48) (new : Fresh net y.table) where
  empty : (k : ℕ) → k < 96 → holds y k ≡ []
  unfolding holds
  empty k h = ap (queue y.area.now) (lane_is net y.table new k h)

  sizes : (i : ℕ) → i < net.links → size_of y i ≡ (net.link i).storage
  unfolding size_of
  sizes i l = size_is net y.table new i (omega arith) ∙ (size_road net i (omega arith) ∙ cond-true (ltb i net.links) _ _ (lt-ltb i net.links l))

  waits : (e j : ℕ) → Entrance net e j → size_of y (48 + j) ≡ 500
  unfolding size_of
  waits e j w =
      let p = off₁ net e j [] w.1 in
      size_is net y.table new (48 + j) (omega (arith, p.0)) ∙ (size_queue net j ∙ (cond-true (ltb j net.links) _ _ (lt-ltb j net.links p.0) ∙ ap waiting_slots (ap (entering net) p.1 ∙ w.0)))

  gauge_is : (i : ℕ) → i < 48 → gauge_of y i ≡ fresh_gauge
  gauge_is i h = ap gauge_in (new.each i h)

  pub built : Built net y
  built = record {
    full = all_full y;
    laid = laid_of y;
    sizes = sizes;
    waits = waits;
  }

  pub ring : InRing y
  ring = record {
    ons = λ i h. subst (λ (g : Gauge). g.ons.oldest ≤ 64) (sym (gauge_is i h)) (omega arith);
    offs = λ i h. subst (λ (g : Gauge). g.offs.oldest ≤ 64) (sym (gauge_is i h)) (omega arith);
  }

  pub opened : Opened net (view_of y 0)
  opened = record {
    clock = refl;
    ons = λ i q l. ap (λ (g : Gauge). back g.ons q) (gauge_is i (omega arith)) ∙ fresh_back q;
    offs = λ i q l. ap (λ (g : Gauge). back g.offs q) (gauge_is i (omega arith)) ∙ fresh_back q;
    cars = λ i l. empty i (omega arith);
    travel = λ i l. ap (λ (g : Gauge). g.travel) (gauge_is i (omega arith));
    queue = λ j l. ap exits (empty (48 + j) (omega arith)) ∙ exits_nil;
  }
