use Rattle.std.proofs.Common.{sym, subst}
use Rattle.std.proofs.lemmas.Result.{err_from_is_err_and}
use Rattle.network.specs.Nets.{net_of}
use Rattle.newell.specs.History.{ask_exit, told}
use Rattle.newell.specs.Now.{Carries}
use Rattle.newell.proofs.Telling.{no_exit, exit_tells}
use Rattle.run.specs.Stores.{view_in}
use Rattle.run.proofs.store.Store.gone.Goals as goal

pub returns-in_err-i-clause-carries : goal.returns-in_err-i-clause-carries
returns-in_err-i-clause-carries c =
    let s = c.args.self.now in
    let p = err_from_is_err_and c.from_residual.result c.from_residual.ensures.1 in
    rw (p.1, p.2, c.in_err-i.ensures.0) (no_exit (net_of s.net) (view_in s) c.args.x c.in_err-i.ensures.1)

pub returns-clause-carries : goal.returns-clause-carries
returns-clause-carries c =
    let s = c.args.self.now in
    subst (λ k. Carries (net_of s.net) (view_in s) (ask_exit c.args.x (told k)) (view_in s)) (sym c.off.ensures) (exit_tells (net_of s.net) (view_in s) c.args.x c.in_ok-i.i c.in_ok-i.ensures)
