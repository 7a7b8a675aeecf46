use Rattle.std.proofs.Common.{◌≡◌, ◌+◌, subst, inl, inr, arith}
use Rattle.newell.specs.History.{ask_link, told}
use Rattle.newell.specs.Now.{Carries}
use Rattle.newell.proofs.Carried.{link_tells}
use Rattle.newell.proofs.Telling.{no_link}
use Rattle.network.specs.Nets.{net_of}
use Rattle.run.specs.Stores.{view_in}
use Rattle.run.proofs.run.Run.ask_link.Goals as goal

pub returns-in-Some-clause-carries : goal.returns-in-Some-clause-carries
returns-in-Some-clause-carries c =
    let s = c.args.self.now.store in
    let e : c.in-Some.i + 1 ≡ c.args.number = omega (arith, c.from.ensures, c.in-Some.ensures) in
    subst (λ n. Carries (net_of s.net) (view_in s) (ask_link n (told c.tell.result)) (view_in s)) e
    (rw c.tell.ensures (link_tells (net_of s.net) (view_in s) c.in-Some.i (omega (arith, c.links.ensures))))

pub returns-in_default-clause-carries : goal.returns-in_default-clause-carries
returns-in_default-clause-carries c = let s = c.args.self.now.store in no_link (net_of s.net) (view_in s) c.args.number (inr (omega (arith, c.from.ensures, c.in-Some.ensures, c.links.ensures)))

pub returns-in_default-2-clause-carries : goal.returns-in_default-2-clause-carries
returns-in_default-2-clause-carries c = let s = c.args.self.now.store in no_link (net_of s.net) (view_in s) c.args.number (inl (omega (arith, c.from.ensures, c.in_default.ensures)))
