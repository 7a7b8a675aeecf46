use Rattle.std.proofs.Common.{List, ℕ, Err, ◌∷◌, sym, refl, ap, ◌∙◌, subst}
use Rattle.std.proofs.lemmas.Result.{err_from_is_err_and}
use Rattle.words.specs.Faults.{position}
use Rattle.words.specs.Tokens.{spot_of}
use Rattle.words.specs.declared.position.Position.{Position}
use Rattle.rows.specs.declared.fault.RowFault.TheVariants.{Value}
use Rattle.fields.specs.Taking.{Checked, left_of}
use Rattle.fields.proofs.Judging.{row_value, row_read, behind_first, row_refused, unchecked}
use Rattle.fields.proofs.read.read_row.Goals as goal

pub returns-in_err-kind-clause-read : goal.returns-in_err-kind-clause-read
returns-in_err-kind-clause-read c =
    let a = c.args.reader.now in
    let look = c.in_ok-end.ensures in
    let r = err_from_is_err_and c.from_residual-in_err-kind.result c.from_residual-in_err-kind.ensures.1 in
    let out = unchecked a.file.now a.at.place a.at.line c.args.stage c.args.counts.nodes c.args.counts.links look.0 (spot_of c.word.result) _ c.word.ensures.taken.cut
    c.count-count.result c.count-count.ensures c.in_err-kind.field-0.0
    (subst (λ (x : Position). Checked (spot_of c.word.result).text c.args.stage c.count-count.result x (Err c.in_err-kind.field-0.0)) c.word.ensures.stands c.in_err-kind.ensures) in
    rw (r.1, r.2) (out, refl, refl)

pub returns-in_err-row-clause-read : goal.returns-in_err-row-clause-read
returns-in_err-row-clause-read c =
    let f = c.args.reader.now.file.now in
    let p = c.args.reader.now.at.place in
    let look = c.in_ok-end.ensures in
    let told = c.in_err-row.ensures in
    let kind = c.in_ok-kind.ensures in
    let w = spot_of c.word.result in
    let r = err_from_is_err_and c.from_residual-in_err-row.result c.from_residual-in_err-row.ensures.1 in
    let cut = behind_first f c.in_ok-end.end p c.word.new.self.at.place w (sym look.1) c.word.ensures.taken
    ∙ ap (λ (x : List ℕ). w ∷ left_of x c.in_ok-end.end c.word.new.self.at.place) (sym c.word.ensures.kept.0) in
    let out = row_refused f p c.args.reader.now.at.line 14 told.0 c.args.stage c.args.counts.nodes c.args.counts.links
    (row_value f p c.args.stage c.args.counts.nodes c.args.counts.links look.0 _ w _ cut c.in_ok-kind.kind kind.0 kind.1
    (sym c.count-count.ensures ∙ kind.2) told.0 told.2) in
    let is = r.2 ∙ told.1 ∙ ap (λ l. Value (position l told.0)) c.word.ensures.kept.1 in
    rw (r.1, is) (out, refl, refl)

pub returns-clause-read : goal.returns-clause-read
returns-clause-read c =
    let f = c.args.reader.now.file.now in
    let p = c.args.reader.now.at.place in
    let look = c.in_ok-end.ensures in
    let told = c.in_ok-row.ensures in
    let kind = c.in_ok-kind.ensures in
    let w = spot_of c.word.result in
    let cut = behind_first f c.in_ok-end.end p c.word.new.self.at.place w (sym look.1) c.word.ensures.taken
    ∙ ap (λ (x : List ℕ). w ∷ left_of x c.in_ok-end.end c.word.new.self.at.place) (sym c.word.ensures.kept.0) in
    let got = row_read f p c.args.stage c.args.counts.nodes c.args.counts.links look.0 0 w _ cut c.in_ok-kind.kind kind.0 kind.1 c.in_ok-end.end c.in_ok-row.row look.1 look.2 told.0 told.1 told.2 in
    (got.0, c.next_line.ensures.0 ∙ got.1, c.next_line.ensures.1.0)
