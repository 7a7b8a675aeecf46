use Rattle.std.proofs.Common.{◌+◌, sym, ◌∙◌, subst}
use Rattle.std.proofs.lemmas.Result.{err_from_is_err_and}
use Rattle.network.specs.Nets.{net_of}
use Rattle.links.specs.Yards.{holds}
use Rattle.flow.proofs.Pulling.{exits_length}
use Rattle.newell.specs.History.{ask_entrance, told}
use Rattle.newell.specs.Now.{Carries}
use Rattle.newell.proofs.Telling.{no_entrance, entrance_tells}
use Rattle.run.specs.Stores.{view_in}
use Rattle.run.proofs.Booking.{entrance_place}
use Rattle.run.proofs.store.Store.waiting.Goals as goal

pub count-requires : goal.count-requires
count-requires c = record { here = entrance_place c.args.self.now.net c.args.e c.in_ok-j.j c.in_ok-j.ensures }

pub returns-in_err-j-clause-carries : goal.returns-in_err-j-clause-carries
returns-in_err-j-clause-carries c =
    let s = c.args.self.now in
    let p = err_from_is_err_and c.from_residual.result c.from_residual.ensures.1 in
    rw (p.1, p.2, c.in_err-j.ensures.0) (no_entrance (net_of s.net) (view_in s) c.args.e c.in_err-j.ensures.1)

pub returns-clause-carries : goal.returns-clause-carries
returns-clause-carries c =
    let s = c.args.self.now in
    let q = exits_length (holds s.yard (48 + c.in_ok-j.j)) ∙ sym c.count.ensures in
    subst (λ k. Carries (net_of s.net) (view_in s) (ask_entrance c.args.e (told k)) (view_in s)) q (entrance_tells (net_of s.net) (view_in s) c.args.e c.in_ok-j.j c.in_ok-j.ensures)

pub returns-clause-told : goal.returns-clause-told
returns-clause-told c = (c.in_ok-j.j, c.in_ok-j.ensures, c.count.ensures ∙ sym (exits_length (holds c.args.self.now.yard (48 + c.in_ok-j.j))))
