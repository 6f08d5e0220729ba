use Rattle.turn_book.specs.Seated.{view_of}
use Rattle.campaign.proofs.ApartLaws.{joined_apart, joined_out}
use Rattle.campaign.proofs.campaign.Shared+Book+W+W.join_pass.Goals as goal

pub returns-clause-out : goal.returns-clause-out
returns-clause-out g c =
    joined_out (view_of c.args.keep.now.seat) (view_of c.args.other.seat) (view_of c.join.new.keep) c.join.ensures.joined c.requires.keep.seat.sound c.requires.other.seat.sound

pub returns-clause-apart : goal.returns-clause-apart
returns-clause-apart g c =
    joined_apart (view_of c.args.keep.now.seat) (view_of c.args.other.seat) (view_of c.join.new.keep) c.join.ensures.joined
