use Rattle.std.proofs.Common.{◌≡◌, ℕ, ◌≤◌, Err, Result, ap, sym, subst, ◌∙◌, take, arith, rules}
use Rattle.std.proofs.lemmas.List.{length-set}
use Rattle.std.proofs.lemmas.Result.{err_from_is_err_and}
use Rattle.std.specs.Option.{ok_or}
use Rattle.network.specs.declared.draft.NodeFault.{NodeFault}
use Rattle.network.specs.declared.draft.NodeFault.TheVariants.{Odd}
use Rattle.network.specs.declared.kind.NodeKind.{NodeKind}
use Rattle.network.specs.declared.layout.Layout.{Layout}
use Rattle.network.specs.Drafts.{AllKinds, LowestOdd}
use Rattle.network.specs.Layouts.{drawn, IsTold}
use Rattle.network.specs.Scans.{IsOrNone, links_net}
use Rattle.network.proofs.Growing.{begun_of}
use Rattle.network.proofs.Finishing.{kind_cut, odd_cut, lowest, more_told}
use Rattle.network.proofs.Walking.{past}
use Rattle.network.proofs.draft.Draft.kinds.Goals as goal
use Rattle.network.proofs.draft.Draft.kinds.Goals.{then-contains+in_ok-ok_or, else-contains}

wrong : (l : Layout) (n : ℕ) (f : NodeFault) → ◌≡◌ {A = Result NodeKind NodeFault} (Err f) (Err (Odd n)) → LowestOdd (drawn l) n → AllKinds l (Err f)
wrong l n f e h = let z : f ≡ Odd n = cc in rw z h

pub returns-in_err-ok_or : goal.returns-in_err-ok_or
returns-in_err-ok_or c =
    let l = c.args.self.now.layout in
    let n = c.loop-n.n-counter in
    let b = begun_of c.args.self.now in
    let odd = odd_cut l n (omega (arith, b.whole, b.fits, b.wanted_most)) (subst (IsOrNone (links_net (take l.count l.links)) n) c.in_err-ok_or.ensures.ok_part c.kind_of.ensures) in
    let low = lowest (drawn l) n c.loop-n.kind-items c.loop-n.invariant.1 (search rules) (search rules) odd in
    let q = err_from_is_err_and c.from_residual.result c.from_residual.ensures.1 in
    rw (q.1, q.2) (wrong l n c.in_err-ok_or.field-0.0 (let h = c.in_err-ok_or.ensures in h.value ∙ ap (λ o. ok_or o (Odd n)) h.ok_part) low)

pub loop-n-preserved : goal.loop-n-preserved
loop-n-preserved c =
    let l = c.args.self.now.layout in
    let n = c.loop-n.n-counter in
    let b = begun_of c.args.self.now in
    let v = c.loop-n.invariant in
    let told : 1 ≤ n → n ≤ l.nodes → IsTold (drawn l) n c.if-contains.kind = elim c.if-contains.branch [
      | then-contains+in_ok-ok_or w ↦
          (λ a e. subst (IsTold (drawn l) n) (sym w.kind-is) (kind_cut l n (omega (arith, b.whole, b.fits, b.wanted_most)) w.in_ok-ok_or.field-0 (subst (IsOrNone (links_net (take l.count l.links)) n) w.in_ok-ok_or.ensures.ok_part w.kind_of.ensures)))
      | else-contains w ↦ (λ a e. absurd (past n l.nodes (search rules) a e))
    ] in
    (length-set c.loop-n.kind-items n c.if-contains.kind ∙ v.0, more_told (drawn l) n c.loop-n.kind-items v.1 c.if-contains.kind (omega arith) told)
