use Rattle.std.proofs.Common.{◌∙◌, sym, arith, length}
use Rattle.std.proofs.lemmas.List.{take_all, length-drop}
use Rattle.system_tables.proofs.TextLaws.{front_is}
use Rattle.system_tables.proofs.records.without_front.Goals as goal

pub returns-then-byte-ne32 : goal.returns-then-byte-ne32
returns-then-byte-ne32 c =
    take_all _ _ (omega (arith, length-drop c.loop-i.i c.args.field.now))
    ∙ sym (front_is c.args.field.now c.loop-i.i (omega arith) c.loop-i.invariant (λ _. c.if-byte-ne32.true))

pub returns : goal.returns
returns c =
    take_all _ _ (omega (arith, length-drop (length c.args.field.now) c.args.field.now))
    ∙ sym (front_is c.args.field.now (length c.args.field.now) (omega arith) (λ k h. c.loop-i.invariant k (omega arith)) (λ h. absurd (omega arith)))
