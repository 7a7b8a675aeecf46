-- What each row of the head adds, or why it is refused. Assumes nothing.
use Rattle.std.proofs.Common.{◌≡◌, ℕ, ◌+◌, ◌-◌, ◌<◌, ◌≤◌, Bool, true, false, cond, ◌&&◌, eqb, ltb, leb, ◌⊎◌, List, [], ◌∷◌, length, is_some, Some, None, Option, sym, refl, ap, ◌∙◌, subst, inl, inr, arith}
use Rattle.std.proofs.lemmas.Bool.{eq-eqb, ne_eqb, cond-true, cond-false, and_from, lt-ltb, le-leb, both_ways}
use Rattle.words.specs.Faults.{position}
use Rattle.words.specs.declared.position.Position.{Position}
use Rattle.network.specs.Drafts.{bare_net, with_link, with_route, LowestOdd, RouteFits, IsMerge}
use Rattle.network.specs.Net as network
use Rattle.network.specs.Nets.{net_of}
use Rattle.network.specs.declared.network.Network.{Network}
use Rattle.network.specs.declared.link.Link.{Link as LinkData}
use Rattle.network.proofs.Rights.{right_of, sound_of}
use Rattle.merge.specs.declared.choice.Choice.{Choice}
use Rattle.merge.specs.Metering.{gates_of, with_gate}
use Rattle.merge.specs.States.{inside}
use Rattle.merge.specs.declared.gate.Gate.{Gate}
use Rattle.merge.specs.declared.gates.Gates.{Gates}
use Rattle.rows.specs.Reading.{Reads}
use Rattle.rows.specs.Rows.{text_of}
use Rattle.rows.specs.declared.kind.Stage.{Stage}
use Rattle.rows.specs.declared.kind.Stage.TheVariants.{Start, Links, Routes, Meters, Calls}
use Rattle.rows.specs.declared.row.Row.TheVariants.{Net, Link, Route, Merge, Meter, Go}
use Rattle.reader.specs.Checks.{Odd}
use Rattle.reader.specs.Faults.{filed, file_told}
use Rattle.reader.specs.Files.{Upto, Refused, numbers_of}
use Rattle.reader.specs.Files as files
use Rattle.reader.specs.Heads.{Got, LinkRow, NoRow, bare, said, meters_of}
use Rattle.reader.specs.Said.{net_said, wanted, Said, said_by, meters_said}
use Rattle.reader.specs.declared.fault.FileFault.{FileFault}
use Rattle.reader.specs.declared.fault.FileFault.TheVariants as fault
use Rattle.reader.proofs.Members.{meter_in, meter_some, route_in, route_some}
use Rattle.reader.proofs.Standing.{upto_none, upto_more, at_start, refused_in, refused_row, got_more, goes_on, reads'}

pub got_none : (file : List ℕ) (l p : ℕ) → Got file l p l p Start 0 0 (said_by [])
got_none file l p = record { rows = []; upto = upto_none file l p; stage = refl; nodes = refl; links = refl; says = refl }

no_calls : (s : Stage) → s ≡ Start ⊎ (s ≡ Links ⊎ (s ≡ Routes ⊎ (s ≡ Meters))) → s ≡ Calls → ⊥
no_calls s (inl a) e = let z : ◌≡◌ {A = ℕ} 0 1 = cc in omega arith
no_calls s (inr (inl a)) e = let z : ◌≡◌ {A = ℕ} 0 1 = cc in omega arith
no_calls s (inr (inr (inl a))) e = let z : ◌≡◌ {A = ℕ} 0 1 = cc in omega arith
no_calls s (inr (inr (inr a))) e = let z : ◌≡◌ {A = ℕ} 0 1 = cc in omega arith

pub not_start : Start ≡ Calls → ⊥
not_start = no_calls Start (inl refl)

pub not_links : Links ≡ Calls → ⊥
not_links = no_calls Links (inr (inl refl))

pub not_routes : Routes ≡ Calls → ⊥
not_routes = no_calls Routes (inr (inr (inl refl)))

pub not_meters : Meters ≡ Calls → ⊥
not_meters = no_calls Meters (inr (inr (inr refl)))

-- the `net` row
pub net_on : (file : List ℕ) (l p l' p' n k : ℕ) → Reads file p Start 0 0 (Net n k) → p' ≡ p + length (text_of (Net n k)) → l' ≡ l + 1 → ((2 ≤ n) × (n ≤ 32) × (1 ≤ k) × (k ≤ 48)) × Got file l p l' p' Links n k (bare (bare_net n))
net_on file l p l' p' n k reads on next = (
  (reads.ranged.0.0, reads.ranged.0.1, reads.ranged.1.0.0, reads.ranged.1.0.1),
  record {
    rows = Net n k ∷ [];
    upto = upto_more file l p [] l p (Net n k) l' p' (upto_none file l p) not_start reads (λ q. ((λ j h. h.1), ((λ j h. h.1), ((λ j h. h.1), ((λ j h. h.1), ((λ j h. h.1), tt)))))) on next;
    stage = refl;
    nodes = refl;
    links = refl;
    says = refl;
  },
)

module _ (file : List ℕ) (l₀ p₀ l p nodes links : ℕ) (net : network.Net) (k : LinkData) (g : Got file l₀ p₀ l p Links nodes links (bare net)) (reads : Reads file p Links nodes links (Link k)) where
  net_is : net_said g.rows ≡ net
  net_is = ap (λ (x : Said). x.net) g.says

  grown_is : net_said (Link k ∷ g.rows) ≡ with_link net k
  grown_is = ap (λ (x : network.Net). with_link x k) net_is

  count_is : (net_said g.rows).links ≡ net.links
  count_is = ap (λ (x : network.Net). x.links) net_is

  pub link_down : (f : FileFault) (a : Position) → f ≡ fault.Link a → a ≡ position l p → k.to ≤ k.from → Refused file l₀ p₀ (file_told f)
  link_down f a e at down =
      subst (λ (x : FileFault). Refused file l₀ p₀ (file_told x)) (sym (e ∙ ap fault.Link at))
      (refused_row file l₀ p₀ l p Links nodes links (bare net) g not_links (Link k) reads (filed 21 l p 0)
      (inl (record { number = refl; layer = refl; first = at_start p _ down })) refl
      (record { odd = λ z. absurd (omega arith); other = λ _. refl }))

  says_more : (net' : network.Net) → net' ≡ with_link net k → said_by (Link k ∷ g.rows) ≡ bare net'
  says_more net' e = ap (λ (x : Said). said (with_link x.net k) x.rule x.meters) g.says ∙ ap bare (sym e)

  pub link_on : (l' p' : ℕ) (net' : network.Net) → k.from < k.to → (net.links + 1 ≡ links → ⊥) → net' ≡ with_link net k → p' ≡ p + length (text_of (Link k)) → l' ≡ l + 1 → Got file l₀ p₀ l' p' Links nodes links (bare net')
  link_on l' p' net' up more e on next =
      let open' : (net_said g.rows).links + 1 ≡ wanted g.rows → ⊥ = λ z. more (omega (arith, count_is, g.links)) in
      got_more file l₀ p₀ l p Links nodes links (bare net) g not_links (Link k) reads l' p' Links (bare net')
      (λ q. ((λ j h. let d = h.1 in omega arith), ((λ j h. open' h.1), ((λ j h. h.1), ((λ j h. h.1), ((λ j h. h.1), tt)))))) on next
      (cond-false (eqb ((net_said g.rows).links + 1) (wanted g.rows)) Routes Links (ne_eqb _ _ open')) g.nodes g.links (says_more net' e)

  module _ (last : net.links + 1 ≡ links) (up : k.from < k.to) (net' : network.Net) (e : net' ≡ with_link net k) where
    closes : (net_said g.rows).links + 1 ≡ wanted g.rows
    closes = omega (arith, count_is, g.links)

    pub link_last : (l' p' : ℕ) (n : Network) → net_of n ≡ net' → p' ≡ p + length (text_of (Link k)) → l' ≡ l + 1 → Got file l₀ p₀ l' p' Routes nodes links (bare (net_of n))
    link_last l' p' n is on next =
        let all = (sound_of n.layout (right_of n)).kind in
        let no-odd : (m : ℕ) → Odd (net_said (Link k ∷ g.rows)) m → ⊥ = λ m h. (subst (λ (x : network.Net). Odd x m) (grown_is ∙ sym (is ∙ e)) h).2 (all m h.0 (subst (λ (x : network.Net). Odd x m) (grown_is ∙ sym (is ∙ e)) h).1) in
        got_more file l₀ p₀ l p Links nodes links (bare net) g not_links (Link k) reads l' p' Routes (bare (net_of n))
        (λ q. ((λ j h. let d = h.1 in omega arith), ((λ j h. no-odd h.2.0 h.2.1), ((λ j h. h.1), ((λ j h. h.1), ((λ j h. h.1), tt)))))) on next
        (cond-true (eqb ((net_said g.rows).links + 1) (wanted g.rows)) Routes Links (eq-eqb _ _ closes)) g.nodes g.links (says_more (net_of n) (is ∙ e))

    pub link_odd : (f : FileFault) (a : Position) (m : ℕ) → f ≡ fault.Node a m → a ≡ position l p → LowestOdd net' m → Refused file l₀ p₀ (file_told f)
    link_odd f a m is at odd =
        let odd' : LowestOdd (net_said (Link k ∷ g.rows)) m = subst (λ (x : network.Net). LowestOdd x m) (e ∙ sym grown_is) odd in
        subst (λ (x : FileFault). Refused file l₀ p₀ (file_told x)) (sym (is ∙ ap (λ (x : Position). fault.Node x m) at))
        (refused_row file l₀ p₀ l p Links nodes links (bare net) g not_links (Link k) reads (filed 22 l p m)
        (inr (
          (λ j h. let d = h.1 in omega arith),
          inl (record {
            number = refl;
            layer = refl;
            first = record { here = (refl, closes, (m, (odd'.least, odd'.most, odd'.odd))); before = λ j lt h. omega (arith, h.0) };
          }),
        )) refl
        (record { odd = λ _. odd'; other = λ ne. absurd (ne refl) }))

-- the row of a link, in an equal file
pub link_row : (file f : List ℕ) (a : Position) (nodes links : ℕ) (k : LinkData) (a' : Position) → f ≡ file → LinkRow f a nodes links k a' → LinkRow file a nodes links k a'
link_row file f a nodes links k a' same r = subst (λ (x : List ℕ). LinkRow x a nodes links k a') same r

-- no link row, or one that runs backward
pub link_refused : (file f : List ℕ) (l₀ p₀ : ℕ) (a : Position) (nodes links : ℕ) (net : network.Net) (a' : Position) → f ≡ file → Got file l₀ p₀ a.line a.place Links nodes links (bare net) → (x : FileFault) → NoRow f a.place a.line Links nodes links (file_told x) ⊎ ((k : LinkData) × LinkRow f a nodes links k a' × (x ≡ fault.Link a) × (k.to ≤ k.from)) → Refused file l₀ p₀ (file_told x)
link_refused file f l₀ p₀ a nodes links net a' same g x (inl none) = refused_in file f l₀ p₀ a Links nodes links (bare net) same g not_links (file_told x) none
link_refused file f l₀ p₀ a nodes links net a' same g x (inr bad) =
    link_down file l₀ p₀ a.line a.place nodes links net bad.0 g (link_row file f a nodes links bad.0 a' same bad.1).0 x a bad.2 refl bad.3

module _ (file : List ℕ) (l₀ p₀ l p nodes links : ℕ) (net : Network) (g : Got file l₀ p₀ l p Routes nodes links (bare (net_of net))) where
  routes_is : net_said g.rows ≡ net_of net
  routes_is = ap (λ (x : Said). x.net) g.says

  module _ (n x k : ℕ) (reads : Reads file p Routes nodes links (Route n x k)) where
    fits_back : RouteFits (net_said g.rows) n x k → RouteFits (net_of net) n x k
    fits_back = subst (λ (y : network.Net). RouteFits y n x k) routes_is

    fits_there : RouteFits (net_of net) n x k → RouteFits (net_said g.rows) n x k
    fits_there = subst (λ (y : network.Net). RouteFits y n x k) (sym routes_is)

    pub route_misfit : (f : FileFault) (a : Position) → f ≡ fault.Route a → a ≡ position l p → (RouteFits (net_of net) n x k → ⊥) → Refused file l₀ p₀ (file_told f)
    route_misfit f a e at bad =
        subst (λ (y : FileFault). Refused file l₀ p₀ (file_told y)) (sym (e ∙ ap fault.Route at))
        (refused_row file l₀ p₀ l p Routes nodes links (bare (net_of net)) g not_routes (Route n x k) reads (filed 23 l p 0)
        (inr ((λ j h. h.1), inr ((λ j h. h.1), inl (record { number = refl; layer = refl; first = at_start p _ (λ fits. bad (fits_back fits)) })))) refl
        (record { odd = λ z. absurd (omega arith); other = λ _. refl }))

    pub route_second : (f : FileFault) (a : Position) (j : ℕ) → f ≡ fault.Again a → a ≡ position l p → RouteFits (net_of net) n x k → (net_of net).route n x ≡ Some j → Refused file l₀ p₀ (file_told f)
    route_second f a j e at fits there =
        let in' = route_in g.rows n x j g.upto.sound (ap (λ (y : network.Net). y.route n x) routes_is ∙ there) in
        subst (λ (y : FileFault). Refused file l₀ p₀ (file_told y)) (sym (e ∙ ap fault.Again at))
        (refused_row file l₀ p₀ l p Routes nodes links (bare (net_of net)) g not_routes (Route n x k) reads (filed 24 l p 0)
        (inr ((λ j h. h.1), inr ((λ j h. h.1), inr ((λ j h. h.1 (fits_there fits)), inl (record { number = refl; layer = refl; first = at_start p _ (j + 1, in') }))))) refl
        (record { odd = λ z. absurd (omega arith); other = λ _. refl }))

    pub route_on : (l' p' : ℕ) (net' : Network) → RouteFits (net_of net) n x k → (net_of net).route n x ≡ None → net_of net' ≡ with_route (net_of net) n x (k - 1) → p' ≡ p + length (text_of (Route n x k)) → l' ≡ l + 1 → Got file l₀ p₀ l' p' Routes nodes links (bare (net_of net'))
    route_on l' p' net' fits none e on next =
        got_more file l₀ p₀ l p Routes nodes links (bare (net_of net)) g not_routes (Route n x k) reads l' p' Routes (bare (net_of net'))
        (λ q. ((λ j h. h.1), ((λ j h. h.1), ((λ j h. h.1 (fits_there fits)), ((λ j h. route_some g.rows n x h.1.0 g.upto.sound h.1.1 (ap (λ (y : network.Net). y.route n x) routes_is ∙ none)), ((λ j h. h.1), tt)))))) on next
        refl g.nodes g.links
        (ap (λ (y : Said). said (with_route y.net n x (k - 1)) y.rule y.meters) g.says ∙ ap bare (sym e))

  pub merge_on : (l' p' : ℕ) (u : Choice) → Reads file p Routes nodes links (Merge u) → p' ≡ p + length (text_of (Merge u)) → l' ≡ l + 1 → Got file l₀ p₀ l' p' Meters nodes links (said (net_of net) u (λ n. None))
  merge_on l' p' u reads on next =
      got_more file l₀ p₀ l p Routes nodes links (bare (net_of net)) g not_routes (Merge u) reads l' p' Meters (said (net_of net) u (λ n. None))
      (λ q. ((λ j h. h.1), ((λ j h. h.1), ((λ j h. h.1), ((λ j h. h.1), ((λ j h. h.1), tt)))))) on next
      refl g.nodes g.links
      (ap (λ (y : Said). said y.net u y.meters) g.says)

module _ (file : List ℕ) (l₀ p₀ l p nodes links : ℕ) (net : Network) (rule : Choice) (gates : Gates) (g : Got file l₀ p₀ l p Meters nodes links (said (net_of net) rule (meters_of gates))) where
  meters_is : net_said g.rows ≡ net_of net
  meters_is = ap (λ (x : Said). x.net) g.says

  table_is : (m : ℕ) → meters_said g.rows m ≡ meters_of gates m
  table_is m = ap (λ (x : Said). x.meters m) g.says

  module _ (n u t : ℕ) (reads : Reads file p Meters nodes links (Meter n u t)) where
    pub meter_second : (f : FileFault) (a : Position) (v s : ℕ) → f ≡ fault.Again a → a ≡ position l p → meters_of gates n ≡ Some (v, s) → Refused file l₀ p₀ (file_told f)
    meter_second f a v s e at there =
        let in' = meter_in g.rows n v s (table_is n ∙ there) in
        subst (λ (y : FileFault). Refused file l₀ p₀ (file_told y)) (sym (e ∙ ap fault.Again at))
        (refused_row file l₀ p₀ l p Meters nodes links (said (net_of net) rule (meters_of gates)) g not_meters (Meter n u t) reads (filed 24 l p 0)
        (inr ((λ j h. h.1), inr ((λ j h. h.1), inr ((λ j h. h.1), inl (record { number = refl; layer = refl; first = at_start p _ (v, s, in') }))))) refl
        (record { odd = λ z. absurd (omega arith); other = λ _. refl }))

    pub meter_misplaced : (f : FileFault) (a : Position) → f ≡ fault.Meter a → a ≡ position l p → meters_of gates n ≡ None → (IsMerge (net_of net) n → ⊥) → Refused file l₀ p₀ (file_told f)
    meter_misplaced f a e at none bad =
        subst (λ (y : FileFault). Refused file l₀ p₀ (file_told y)) (sym (e ∙ ap fault.Meter at))
        (refused_row file l₀ p₀ l p Meters nodes links (said (net_of net) rule (meters_of gates)) g not_meters (Meter n u t) reads (filed 25 l p 0)
        (inr ((λ j h. h.1), inr ((λ j h. h.1), inr ((λ j h. h.1), inr ((λ j h. meter_some g.rows n h.1.0 h.1.1 h.1.2 (table_is n ∙ none)), inl (record { number = refl; layer = refl; first = at_start p _ (λ m. bad (subst (λ (y : network.Net). IsMerge y n) meters_is m)) })))))) refl
        (record { odd = λ z. absurd (omega arith); other = λ _. refl }))

    pub meter_on : (l' p' : ℕ) (gates' : Gates) → meters_of gates n ≡ None → IsMerge (net_of net) n → ((m : ℕ) → meters_of gates' m ≡ cond (eqb m n) (Some (u, t)) (meters_of gates m)) → p' ≡ p + length (text_of (Meter n u t)) → l' ≡ l + 1 → Got file l₀ p₀ l' p' Meters nodes links (said (net_of net) rule (meters_of gates'))
    meter_on l' p' gates' none merge' e on next =
        got_more file l₀ p₀ l p Meters nodes links (said (net_of net) rule (meters_of gates)) g not_meters (Meter n u t) reads l' p' Meters (said (net_of net) rule (meters_of gates'))
        (λ q. ((λ j h. h.1), ((λ j h. h.1), ((λ j h. h.1), ((λ j h. meter_some g.rows n h.1.0 h.1.1 h.1.2 (table_is n ∙ none)), ((λ j h. h.1 (subst (λ (y : network.Net). IsMerge y n) (sym meters_is) merge')), tt)))))) on next
        refl g.nodes g.links
        (ap (λ (y : Said). said y.net y.rule (λ m. cond (eqb m n) (Some (u, t)) (y.meters m))) g.says ∙ ap (said (net_of net) rule) (λ i m. sym (e m) i))

  pub go_on : (a : Position) (l' p' : ℕ) → a ≡ position l p → Reads file p Meters nodes links Go → p' ≡ p + length (text_of Go) → l' ≡ l + 1 → files.Network file l₀ p₀ (said (net_of net) rule (meters_of gates)) a.line a.place l' p'
  go_on a l' p' at reads on next =
      let rest = g.rows in
      record {
        rows = rest;
        head = subst (λ (x : Position). Upto file l₀ p₀ rest x.line x.place) (sym at) g.upto;
        whole = upto_more file l₀ p₀ rest l p Go l' p' g.upto (goes_on file l₀ p₀ l p Meters nodes links (said (net_of net) rule (meters_of gates)) g not_meters) (reads' file l₀ p₀ l p Meters nodes links (said (net_of net) rule (meters_of gates)) g not_meters Go reads)
            (λ q. ((λ j h. h.1), ((λ j h. h.1), ((λ j h. h.1), ((λ j h. h.1), ((λ j h. h.1), tt)))))) on next;
        says = sym g.says;
      }

-- the table of meters, with one more
pub meters_put : (g g' : Gates) (n u t : ℕ) (gate : Gate) → 1 ≤ n → n ≤ 32 → gates_of g' ≡ with_gate (gates_of g) n gate → gate.rate ≡ u → gate.period ≡ t → (m : ℕ) → meters_of g' m ≡ cond (eqb m n) (Some (u, t)) (meters_of g m)
meters_put g g' n u t gate low high e r s m =
    let in' : inside n ≡ true = and_from (ltb 0 n) (leb n 32) (lt-ltb 0 n (omega arith)) (le-leb n 32 high) in
    ap (λ (f : ℕ → Option Gate). numbers_of (f m)) e
    ∙ ap (λ (b : Bool). numbers_of (cond (b && eqb m n) (Some gate) (gates_of g m))) in'
    ∙ both (eqb m n)
  where
    both : (b : Bool) → numbers_of (cond b (Some gate) (gates_of g m)) ≡ cond b (Some (u, t)) (meters_of g m)
    both true = λ i. Some (r i, s i)
    both false = refl

pub none_there : (o : Option Gate) → is_some o ≡ false → numbers_of o ≡ None
none_there None e = refl
none_there (Some g) e = absurd (both_ways true e refl)

-- the same rows, said of an equal network or table
pub got_as : (file : List ℕ) (l₀ p₀ l p : ℕ) (stage : Stage) (nodes links : ℕ) (s s' : Said) → s ≡ s' → Got file l₀ p₀ l p stage nodes links s → Got file l₀ p₀ l p stage nodes links s'
got_as file l₀ p₀ l p stage nodes links s s' e g = subst (Got file l₀ p₀ l p stage nodes links) e g
