-- What is set so far and by the lines of the rest is what the text sets.
use Rattle.std.proofs.Common.{◌≡◌, ◌<◌, [], All, length, option_map}
use Rattle.std.specs.List.{slice_split}
use Rattle.wire_base.proofs.SidLaws.{rest_size}
use Rattle.account_table.specs.Secrets.{is_newline, lines_of, settings_after}
use Rattle.account_table.proofs.secrets.read_settings.Given as goal

abbrev pub invariant-loop-rest : goal.invariant-loop-rest
invariant-loop-rest l = record {
  so_far : settings_after l.accounts l.settings (lines_of (option_map (λ t. t.now) l.rest)) ≡ settings_after l.accounts [] (slice_split is_newline l.text);
  within : All (λ setting. setting.0 < length l.accounts) l.settings;
}

abbrev pub decreases-loop-rest : goal.decreases-loop-rest
decreases-loop-rest l = rest_size (option_map (λ t. t.now) l.rest)
