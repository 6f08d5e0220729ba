use Rattle.std.proofs.Common.{◌≡◌, ◌<◌, length, take, arith}
use Rattle.std.proofs.lemmas.List.{take_all}
use Rattle.decimal_text.proofs.ScanLaws.{some_there}
use Rattle.system_tables.proofs.DigitLaws.{IsDigitMore, digit_more, plain_whole}
use Rattle.system_tables.proofs.numbers.plain_number.Goals as goal

pub loop-byte-preserved : goal.loop-byte-preserved
loop-byte-preserved c =
    let more : IsDigitMore c.args.field.now c.loop-byte.byte-index c.loop-byte.number =
    digit_more c.args.field.now c.loop-byte.byte-index c.loop-byte.number (omega arith) (omega arith)
    c.loop-byte.invariant.digits c.loop-byte.invariant.value c.if-not-is_ascii_digit.ensures.bound in
    record { digits = more.digits; value = rw c.from.ensures more.value; small = rw c.from.ensures more.small }

pub returns-clause-exact : goal.returns-clause-exact
returns-clause-exact c =
    let some : 0 < length c.args.field.now = some_there (length c.args.field.now) c.if-is_empty.ensures in
    let all : take c.loop-byte.byte-index c.args.field.now ≡ c.args.field.now =
    take_all c.loop-byte.byte-index c.args.field.now (omega arith) in
    plain_whole c.args.field.now c.loop-byte.number some (omega arith) (rw all at c.loop-byte.invariant.digits)
    (rw all at c.loop-byte.invariant.value) (omega (arith, c.loop-byte.invariant.small))
