-- What the outside tells of a run (this project's own choice).
use Rattle.std.specs.Prelude.{ℕ, List, Option}
use Rattle.outside.specs.Causes.{RisesWhere}
use Rattle.outside.specs.Drawing.{Drawing, DrawsAll}
use Rattle.outside.specs.Stories.{fails_at_links}
use Rattle.outside.specs.Telling.{Appends}
use Rattle.outside.specs.declared.event.Happening.{Happening}
use Rattle.end_loop.specs.Writing.{FilesTold, Write, WritesFiles}

-- What the port, the clock, the maker of challenges, the sink and the files tell at one moment.
pub record Sight : Type 0 where
  pub story : Option (List Happening)
  -- how often dials and sends failed
  pub link_faults : ℕ
  pub moments : Option (List ℕ)
  pub drawing : Drawing
  pub taken : Option (List ℕ)
  pub files : FilesTold

-- what they tell, by the meanings of their traits
abbrev pub sight_of : {P C Q S F : Type 0} → (P → Option (List Happening)) → (P → ℕ) → (C → Option (List ℕ)) → (Q → Drawing) →
    (S → Option (List ℕ)) → (F → FilesTold) → P → C → Q → S → F → Sight
sight_of story link_faults moments drawing taken told port clock chances out files = record {
  story = story port;
  link_faults = link_faults port;
  moments = moments clock;
  drawing = drawing chances;
  taken = taken out;
  files = told files;
}

-- How what they tell before a call stands to what they tell after it.
abbrev pub Between : {P C Q S F : Type 0} → (P → Option (List Happening)) → (P → ℕ) → (C → Option (List ℕ)) → (Q → Drawing) →
    (S → Option (List ℕ)) → (F → FilesTold) → P → C → Q → S → F → P → C → Q → S → F → (Sight → Sight → Type 0) → Type 0
Between story link_faults moments drawing taken told port clock chances out files port_after clock_after chances_after out_after files_after relation =
    relation (sight_of story link_faults moments drawing taken told port clock chances out files)
    (sight_of story link_faults moments drawing taken told port_after clock_after chances_after out_after files_after)

-- Between two moments these things happened at the port, these moments were given, these challenges drawn, these bytes
-- put and these writes made; the count of link faults rose where a dial or a send failed.
pub record Shows (before after : Sight) (happened : List Happening) (given : List ℕ) (drawn : List (List ℕ)) (put : List ℕ) (writes : List Write) : Type 0 where
  pub story : Appends before.story after.story happened
  pub links : RisesWhere (fails_at_links happened) before.link_faults after.link_faults
  pub moments : Appends before.moments after.moments given
  pub drawing : DrawsAll before.drawing after.drawing drawn
  pub taken : Appends before.taken after.taken put
  pub files : WritesFiles before.files after.files writes
