-- The parts of a line that is kept.
use Rattle.adequacy.specs.LineParts.{LineParts}
use Rattle.adequacy.specs.declared.words.line.Line.TheInside.{Inside}

abbrev pub parts_of : Inside → LineParts
parts_of line = record {
  command = line.command;
  place = line.place;
  number = line.number;
  samples = line.samples;
  seed = line.seed;
  workers = line.workers;
  block = line.block;
  most = line.most;
  precision = line.precision;
  sample = line.sample;
  result = line.result;
  kind = line.kind;
  measure = line.measure;
  capacity = line.capacity;
  failure = line.failure;
  repair = line.repair;
  up_to = line.up_to;
}
