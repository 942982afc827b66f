-- What is written down of a station's bytes is what its machine does at them. It serves `stations_are_noted`.
use Rattle.step_notes.specs.StationSteps.{StationsAreNoted}
use Rattle.step_notes.proofs.Stations.StationSendLaws.{stations_send}
use Rattle.step_notes.proofs.Stations.StationTakeLaws.{stations_take}
use Rattle.step_notes.proofs.Stations.StationViewLaws.{stations_have}

pub stations_noted : StationsAreNoted
stations_noted = record { sends = stations_send; takes = stations_take; sees = stations_have }
