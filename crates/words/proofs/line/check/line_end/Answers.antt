use Rattle.std.proofs.Common.{◌≡◌, get_or, ◌∙◌, rules}
use Rattle.std.proofs.lemmas.Iterator.{first_from_Range}
use Rattle.words.proofs.Cuts.{Found, feed_found}
use Rattle.words.proofs.line.check.line_end.Goals as goal

pub returns-clause-is : goal.returns-clause-is
returns-clause-is c =
    let file = c.args.file.now in
    let found : Found (λ k. get_or file k 0 ≡ 10) file c.args.from c.find.result
    = first_from_Range _ _ _ _ (λ k. get_or file k 0 ≡ 10) (λ k. get_or file k 0 ≡ 10 → ⊥) c.find.ensures.ran (λ x q k. search rules) (λ x q k. search rules) in
    c.unwrap_or.ensures ∙ feed_found file c.args.from c.find.result c.requires found
