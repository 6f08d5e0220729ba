-- What a share may be.
use Rattle.std.specs.Prelude.{◌+◌, ◌≤◌}
use Rattle.ra_base.specs.declared.limits.TheConstants.{MOST_SAMPLES}
use Rattle.campaign_core.specs.declared.run.SampleRange.{SampleRange}

-- a range with a sample, all of them below the most samples of a study
abbrev pub IsShare : SampleRange → Type 0
IsShare r = (1 ≤ r.count) × (r.first + r.count ≤ MOST_SAMPLES)
