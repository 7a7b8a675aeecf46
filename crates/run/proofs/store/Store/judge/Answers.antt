use Rattle.std.proofs.Common.{◌≡◌, ℕ, ◌+◌, ◌<◌, [], sym, ◌∙◌, subst, arith}
use Rattle.std.proofs.lemmas.Result.{err_from_is_err_and}
use Rattle.network.specs.Net.{Walk, Exit}
use Rattle.network.specs.Nets.{net_of}
use Rattle.network.proofs.Sorts.{in₁, off₁}
use Rattle.links.specs.Yards.{holds}
use Rattle.links.proofs.Changing.{fits}
use Rattle.flow.proofs.Pulling.{exits_length}
use Rattle.newell.proofs.Telling.{book_no_entrance, book_no_exit, book_not_served, book_bad_count, book_no_place}
use Rattle.run.specs.Stores.{view_in}
use Rattle.run.proofs.Booking.{entrance_place}
use Rattle.run.proofs.store.Store.judge.Goals as goal
use Rattle.run.proofs.store.Store.judge.Goals.{After-end, Else-not-served}

pub returns-in_err-j : goal.returns-in_err-j
returns-in_err-j c =
    let s = c.args.self.now in
    let p = err_from_is_err_and c.from_residual.result c.from_residual.ensures.1 in
    rw (p.1, p.2, c.in_err-j.ensures.0) (book_no_entrance (net_of s.net) (view_in s) c.args.e c.args.x c.args.n c.in_err-j.ensures.1)

pub returns-in_err-i : goal.returns-in_err-i
returns-in_err-i c =
    let s = c.args.self.now in
    let p = err_from_is_err_and c.from_residual-in_err-i.result c.from_residual-in_err-i.ensures.1 in
    rw (p.1, p.2, c.in_err-i.ensures.0) (book_no_exit (net_of s.net) (view_in s) c.args.e c.args.x c.args.n c.in_ok-j.j c.in_ok-j.ensures c.in_err-i.ensures.1)

pub end-requires : goal.end-requires
end-requires c = (in₁ (net_of c.args.self.now.net) c.args.x c.in_ok-i.i [] c.in_ok-i.ensures.0).0

-- the exit's link ends there
ends : (c : After-end) → c.end.result ≡ c.args.x
ends c = c.end.ensures ∙ (in₁ (net_of c.args.self.now.net) c.args.x c.in_ok-i.i [] c.in_ok-i.ensures.0).1

pub served-requires : goal.served-requires
served-requires c =
    let net = net_of c.args.self.now.net in
    record {
      here = (off₁ net c.args.e c.in_ok-j.j [] c.in_ok-j.ensures.1).0;
      exit = (c.in_ok-i.i, subst (λ v. Exit net v c.in_ok-i.i) (sym (ends (goal.at.served-requires c).After-end)) c.in_ok-i.ensures);
    }

pub returns-then-not-served : goal.returns-then-not-served
returns-then-not-served c =
    let s = c.args.self.now in
    let net = net_of s.net in
    let e = ends (goal.at.returns-then-not-served c).After-end in
    book_not_served net (view_in s) c.args.e c.args.x c.args.n c.in_ok-j.j c.in_ok-i.i c.in_ok-j.ensures c.in_ok-i.ensures
    (λ k u. c.served.ensures.no c.if-not-served.true k (subst (λ v. Walk net v c.in_ok-j.j k) (sym e) u))

-- the walk to the exit
walks : (c : Else-not-served) → (k : ℕ) × Walk (net_of c.args.self.now.net) c.args.x c.in_ok-j.j k
walks c = let u = c.served.ensures.yes c.if-not-served.false in (u.0, subst (λ v. Walk (net_of c.args.self.now.net) v c.in_ok-j.j u.0) (ends (goal.at.Else-not-served c).After-end) u.1)

pub returns-then-not-countable : goal.returns-then-not-countable
returns-then-not-countable c =
    let s = c.args.self.now in
    let u = walks (goal.at.returns-then-not-countable c).Else-not-served in
    book_bad_count (net_of s.net) (view_in s) c.args.e c.args.x c.args.n c.in_ok-j.j c.in_ok-i.i u.0 c.in_ok-j.ensures c.in_ok-i.ensures u.1 (c.countable.ensures.no c.if-not-countable.true)

pub count-requires : goal.count-requires
count-requires c = record { here = entrance_place c.args.self.now.net c.args.e c.in_ok-j.j c.in_ok-j.ensures }

pub place_for-requires : goal.place_for-requires
place_for-requires c =
    let s = c.args.self.now in
    let b = entrance_place s.net c.args.e c.in_ok-j.j c.in_ok-j.ensures in
    let l : 48 + c.in_ok-j.j < 96 = omega (arith, b) in
    omega (arith, fits s.yard (48 + c.in_ok-j.j) l, c.requires.waits c.args.e c.in_ok-j.j c.in_ok-j.ensures, c.count.ensures)

pub returns-then-not-place_for : goal.returns-then-not-place_for
returns-then-not-place_for c =
    let s = c.args.self.now in
    let u = walks (goal.at.returns-then-not-place_for c).Else-not-served in
    let n = c.countable.ensures.yes c.if-not-countable.false in
    book_no_place (net_of s.net) (view_in s) c.args.e c.args.x c.args.n c.in_ok-j.j c.in_ok-i.i u.0 c.in_ok-j.ensures c.in_ok-i.ensures u.1 n.0 n.1
    (omega (arith, c.count.ensures, exits_length (holds s.yard (48 + c.in_ok-j.j)), c.place_for.ensures.no c.if-not-place_for.true))

pub returns : goal.returns
returns c =
    let u = walks (goal.at.returns c).Else-not-served in
    let n = c.countable.ensures.yes c.if-not-countable.false in
    record {
      entrance = c.in_ok-j.ensures;
      exit = (c.in_ok-i.i, c.in_ok-i.ensures);
      served = (u.0, (c.in_ok-j.j, c.in_ok-j.ensures, u.1));
      least = n.0;
      most = n.1;
      room = omega (arith, c.count.ensures, exits_length (holds c.args.self.now.yard (48 + c.in_ok-j.j)), c.place_for.ensures.yes c.if-not-place_for.false);
    }
