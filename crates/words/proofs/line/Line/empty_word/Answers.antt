use Rattle.std.proofs.Common.{sym, ap, subst, ◌∙◌, MatchOption, rules}
use borrow.Author.Tests.{tests}
use Rattle.std.proofs.lemmas.Iterator.{first_from_Range}
use Rattle.std.specs.Option.{option_or}
use Rattle.words.specs.Tables.{First, Never}
use Rattle.words.specs.Lines.{Empty, words_at}
use Rattle.words.proofs.Cuts.{Ahead, first_empty}
use Rattle.words.proofs.line.Line.empty_word.Goals as goal

pub returns : goal.returns
returns c =
    let file = c.args.self.now.file.now in
    let ws = words_at file c.args.self.now.from in
    let ahead : Ahead file c.args.self.now.from c.args.self.now.end c.find.result
    = first_from_Range _ _ _ _ (λ k. Empty ws k) (λ k. Empty ws k → ⊥) c.find.ensures.ran (λ x q k. search (rules, tests)) (λ x q k. search (rules, tests)) in
    subst (λ r. MatchOption r (Never (Empty ws)) (λ q. First (Empty ws) q)) (sym (c.or.ensures ∙ ap (option_or c.find.result) c.then_some-last.ensures))
    (first_empty file c.args.self.now.from c.args.self.now.end c.find.result _ c.args.self.now.low c.args.self.now.within c.args.self.now.whole ahead c.is_empty_at.ensures)
