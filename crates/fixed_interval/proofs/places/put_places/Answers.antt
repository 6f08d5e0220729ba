use Rattle.std.proofs.Common.{arith, length-set}
use Rattle.std.proofs.lemmas.Fmt.{length-decimal-le}
use Rattle.std.proofs.lemmas.List.{nil_from_length}
use Rattle.fixed_interval.proofs.PlacesLemmas.{length-after_one, places_text-from_parts}
use Rattle.fixed_interval.proofs.places.put_places.Goals as goal

pub write_digits-point-requires : goal.write_digits-point-requires
write_digits-point-requires c = (omega (arith, length-after_one c.args.value.behind c.args.value.below), omega arith)

pub bounds-digits-point : goal.bounds-digits-point
bounds-digits-point c = omega (arith, length-after_one c.args.value.behind c.args.value.below)

pub write_digits-start-requires : goal.write_digits-start-requires
write_digits-start-requires c =
    let places = length-after_one c.args.value.behind c.args.value.below in
    let short = length-decimal-le 20 c.args.value.whole (omega arith) (omega arith) (omega arith) in
    (omega arith, simp length-set (omega arith))

pub returns-clause-ok : goal.returns-clause-ok
returns-clause-ok c =
    let places = length-after_one c.args.value.behind c.args.value.below in
    rw (← places_text-from_parts c.args.value.whole c.args.value.behind c.write_digits-point.result c.write_digits-start.result
    _ c.write_digits-point.new.buf _ c.args.value.below (omega arith) (omega arith) (nil_from_length _ (omega arith)) (omega arith)
    c.write_digits-point.ensures.written c.write_digits-start.ensures.written) c.push.ensures.ok
