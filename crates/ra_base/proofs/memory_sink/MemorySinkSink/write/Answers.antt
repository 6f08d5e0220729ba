use Rattle.std.proofs.Common.{rules, length, take, drop, ◌-◌, sym}
use Rattle.std.proofs.lemmas.List.{take-append-drop}
use Rattle.std.proofs.lemmas.Grind.{common_steps}
use Rattle.ra_base.proofs.memory_sink.MemorySinkSink.write.Goals as goal

-- what still fits is the first part that was taken
pub returns-clause-held : goal.returns-clause-held
returns-clause-held c =
    let room = c.args.self.now.capacity - length c.args.self.now.held in
    (take room c.args.piece.now, (drop room c.args.piece.now, sym (take-append-drop room c.args.piece.now)), search (rules, common_steps))
