use Rattle.std.proofs.Common.{◌≡◌, ◌-◌, ◌<◌, ap, cond, eqb, length, take, drop, ◌+◌, ◌∙◌, arith, rules}
use borrow.Author.Tests.{tests}
use Rattle.std.proofs.lemmas.Iterator.{YieldsList-from_map, YieldsList-from_slice}
use Rattle.std.proofs.lemmas.Iterator.Consumers.{sum_by_from_yields_List, fits_by_from_yields_list}
use Rattle.std.proofs.lemmas.List.Sums.{count_by-le-length}
use Rattle.std.specs.List.{count_by}
use Rattle.words.proofs.Cuts.{words_between}
use Rattle.words.proofs.line.Line.words.Goals as goal

pub sum-requires-clause-fits : goal.sum-requires-clause-fits
sum-requires-clause-fits c =
    let text = take (c.args.self.now.end - c.args.self.now.from) (drop c.args.self.now.from c.args.self.now.file.now) in
    let few : length text < 18446744073709551615 = search rules in
    fits_by_from_yields_list (λ x. cond (eqb x 32) 1 0) text c.map.result _
    (YieldsList-from_map _ (λ x. cond (eqb x 32) 1 0) (YieldsList-from_slice text (search rules)) c.map.ensures.closure (λ x r q k. search (rules, tests)))
    (omega (arith, few, count_by-le-length (λ x. eqb x 32) text))

spaces : (c : goal.After-sum) → c.sum.result ≡ count_by (λ x. eqb x 32) (take (c.args.self.now.end - c.args.self.now.from) (drop c.args.self.now.from c.args.self.now.file.now))
spaces c =
    let text = take (c.args.self.now.end - c.args.self.now.from) (drop c.args.self.now.from c.args.self.now.file.now) in
    sum_by_from_yields_List (λ x. cond (eqb x 32) 1 0) text c.map.result c.sum.result c.sum.ensures.ran
    (YieldsList-from_map _ (λ x. cond (eqb x 32) 1 0) (YieldsList-from_slice text (search rules)) c.map.ensures.closure (λ x r q k. search (rules, tests)))

pub overflow_add-result : goal.overflow_add-result
overflow_add-result c =
    let text = take (c.args.self.now.end - c.args.self.now.from) (drop c.args.self.now.from c.args.self.now.file.now) in
    let few : length text < 18446744073709551615 = search rules in
    omega (arith, few, spaces c, count_by-le-length (λ x. eqb x 32) text)

pub returns : goal.returns
returns c = ap (λ n. n + 1) (spaces c) ∙ words_between c.args.self.now.file.now c.args.self.now.from c.args.self.now.end c.args.self.now.whole
