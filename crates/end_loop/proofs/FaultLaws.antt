-- The count of link faults over a run.
use Rattle.std.proofs.Common.{ℕ, List, Option, ◌++◌, inl, inr}
use Rattle.outside.specs.Machine.{Machine}
use Rattle.outside.specs.declared.event.Happening.{Happening}
use Rattle.outside.proofs.TellingLaws.{Appends-trans}
use Rattle.end_loop.specs.declared.halt.Halt.{Halt}
use Rattle.end_loop.specs.declared.halt.Halt.TheVariants.{PortFault, FileFault, SinkFault, NoMemory, Spent}
use Rattle.end_loop.specs.Seen.{Sight, Shows}
use Rattle.end_loop.specs.Writing.{Write}
use Rattle.end_loop.specs.Runs.{RunState, RanInto, RanOut, Halts}
use Rattle.end_loop.specs.Faults.{CountsFaults, RunsCountFaults}
use Rattle.end_loop.proofs.ActLaws.{Rises-append}

shown : (before after : Sight) (happened : List Happening) (given : List ℕ) (drawn : List (List ℕ)) (put : List ℕ) (writes : List Write) → Shows before after happened given drawn put writes → CountsFaults before after
shown before after happened given drawn put writes shows = record { happened = happened; story = shows.story; links = shows.links }

counts_both : (before middle after : Sight) → CountsFaults before middle → CountsFaults middle after → CountsFaults before after
counts_both before middle after one other = record {
  happened = one.happened ++ other.happened;
  story = Appends-trans before.story middle.story after.story one.happened other.happened one.story other.story;
  links = Rises-append one.happened other.happened before.link_faults middle.link_faults after.link_faults one.links other.links;
}

into_counts : {S : Type 0} (machine : Machine S) (file : Option (List ℕ)) (start : RunState S) (most : ℕ) (before after : Sight) (halt : Halt) → RanInto machine file start most before after halt → CountsFaults before after
into_counts machine file start most before after halt into =
    counts_both before into.middle after (shown _ _ _ _ _ _ _ into.ran.shows) (shown _ _ _ _ _ _ _ into.shows)

out_counts : {S : Type 0} (machine : Machine S) (file : Option (List ℕ)) (start : RunState S) (last : S) (most : ℕ) (before after : Sight) → RanOut machine file start last most before after → CountsFaults before after
out_counts machine file start last most before after out = counts_both before out.middle after (shown _ _ _ _ _ _ _ out.ran.shows) (shown _ _ _ _ _ _ _ out.shows)

halts_count : {S : Type 0} (machine : Machine S) (file : Option (List ℕ)) (start : RunState S) (most : ℕ) (before after : Sight) (halt : Halt) → Halts machine file start most before after halt → CountsFaults before after
halts_count machine file start most before after PortFault h = shown _ _ _ _ _ _ _ h.ran.shows
halts_count machine file start most before after FileFault h = into_counts machine file start most before after FileFault h
halts_count machine file start most before after SinkFault h = into_counts machine file start most before after SinkFault h
halts_count machine file start most before after NoMemory (inl h) = shown _ _ _ _ _ _ _ h.ran.shows
halts_count machine file start most before after NoMemory (inr h) = into_counts machine file start most before after NoMemory h
halts_count machine file start most before after Spent h = into_counts machine file start most before after Spent h

pub runs_count_faults : {S : Type 0} (machine : Machine S) → RunsCountFaults machine
runs_count_faults machine = record { ends = out_counts machine; halts = halts_count machine }
