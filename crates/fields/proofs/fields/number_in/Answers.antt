use Rattle.std.proofs.Common.{ℕ, Option, sym, ◌∙◌, subst, arith, rules}
use Rattle.words.specs.Numbers.{IsNumberOf}
use Rattle.words.specs.Faults.{position}
use Rattle.words.specs.Tokens.{spot_of}
use Rattle.fields.proofs.Series.{Fitted, fitted, stands_at}
use Rattle.fields.proofs.fields.number_in.Goals as goal

pub returns-clause-got : goal.returns-clause-got
returns-clause-got c =
    let w = c.word-word.result in
    let e = c.word-word.ensures in
    let fit : Fitted c.args.range c.at.result c.number.result c.ok_or.result = search rules in
    record {
      word = spot_of w;
      taken = e.taken;
      on = e.on;
      is = fitted (spot_of w).text c.args.range c.at.result c.number.result c.ok_or.result (position c.args.rest.now.words.at.line (spot_of w).place) (c.at.ensures ∙ stands_at w c.args.rest.now.words.at e.stands) (omega arith)
          (subst (λ (o : Option ℕ). IsNumberOf o (spot_of w).text) (sym c.number.ensures) e.right) fit;
    }
