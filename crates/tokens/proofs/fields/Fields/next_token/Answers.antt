-- what the check does not find by itself
use Rattle.std.proofs.Common.{refl, ◌∙◌}
use Rattle.std.proofs.lemmas.List.{take_rest}
use Rattle.tokens.proofs.Cuts.{next_field}
use Rattle.tokens.proofs.fields.Fields.next_token.Goals as goal

pub returns-clause-told : goal.returns-clause-told
returns-clause-told c =
    let f = c.self.inside in
    let e = next_field f.line.now f.at _ c.if-self.false (rw take_rest at c.up_to-field.ensures) in
    c.of_field.ensures.told ∙ rw (← c.self.view_is, e) refl

pub returns-clause-moves : goal.returns-clause-moves
returns-clause-moves c =
    let f = c.self.inside in
    let e = next_field f.line.now f.at _ c.if-self.false (rw take_rest at c.up_to-field.ensures) in
    rw (← c.self.view_is, e) refl
