use Rattle.std.proofs.Common.{rules, map}
use Rattle.std.specs.String.{string_bytes}
use Rattle.nt_words.specs.Forms.{IsStationForm}
use Rattle.nt_words.specs.Jobs.{station_form, station_of}
use Rattle.nt_words.proofs.KindLaws.{built, station_formed}
use Rattle.nt_words.proofs.station.station_words.Goals as goal

pub invariant_of-result : goal.invariant_of-result
invariant_of-result c =
    built IsStationForm station_form station_of station_formed (map string_bytes c.args.words.now) _ _ _ c.station_options-options.ensures c.in_ok-matches.ensures (search rules)
