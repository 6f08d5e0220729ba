use Rattle.std.proofs.Common.{◌≡◌, ◌*◌, ◌≤◌, take}
use Rattle.ra_base.specs.declared.limits.TheConstants.{MOST_TABLE_MW}
use Rattle.fixed_interval.specs.Enclosure.{one}
use Rattle.fixed_interval.specs.Rounding.{floor_div, ceil_div}
use Rattle.analytic_index.specs.Index.{shifted_needs, lole_end, eue_end}
use Rattle.analytic_index.proofs.analysis.Analysis.sum_of_hours.Given as goal

-- the indices over the hours so far
abbrev pub invariant-loop-hour : goal.invariant-loop-hour
invariant-loop-hour l = record {
  lole_low : l.lole.0 ≡ lole_end floor_div l.self.units (shifted_needs l.less l.more (take l.hour-index l.hour-items));
  lole_high : l.lole.1.0 ≡ lole_end ceil_div l.self.units (shifted_needs l.less l.more (take l.hour-index l.hour-items));
  eue_low : l.eue.0 ≡ eue_end floor_div l.self.units (shifted_needs l.less l.more (take l.hour-index l.hour-items));
  eue_high : l.eue.1.0 ≡ eue_end ceil_div l.self.units (shifted_needs l.less l.more (take l.hour-index l.hour-items));
  lole_ordered : l.lole.0 ≤ l.lole.1.0;
  lole_small : l.lole.1.0 ≤ l.hour-index * one;
  eue_ordered : l.eue.0 ≤ l.eue.1.0;
  eue_small : l.eue.1.0 ≤ l.hour-index * (MOST_TABLE_MW * one);
}
