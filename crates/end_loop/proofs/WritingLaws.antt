-- How writes come together, which `Performed`, `CutShort` and `Shows` say of the loop's steps.
use Rattle.std.proofs.Common.{◌≡◌, ℕ, Bool, List, [], ◌∷◌, ◌++◌, Option, Some, None, Result, Ok, Err, OnOk, OnErr, is_err, refl, sym, subst}
use Rattle.outside.specs.Telling.{Appends, Tells}
use Rattle.outside.proofs.TellingLaws.{Appends-trans, Appends-nothing}
use Rattle.end_loop.specs.Acts.{FailsToKeep, writes_of}
use Rattle.end_loop.specs.Writing.{FilesTold, Leaves, LeavesBy, Write, WritesFiles}

abbrev Contents : Type 0
Contents = List (List ℕ × List ℕ)

Leaves-append : (writes more : List Write) (first second third : Contents) → Leaves writes first second → Leaves more second third → Leaves (writes ++ more) first third
Leaves-append [] more first second third here later = subst (λ (files : Contents). Leaves more files third) here later
Leaves-append (write ∷ writes) more first second third here later = (here.0, here.1, Leaves-append writes more here.0 second third here.2 later)

Tells-trans : (writes more : List Write) (first second third : Option Contents) → Tells first second (Leaves writes) → Tells second third (Leaves more) →
    Tells first third (Leaves (writes ++ more))
Tells-trans writes more None None third here later = later
Tells-trans writes more None (Some b) third here later = cc
Tells-trans writes more (Some a) second None here later = tt
Tells-trans writes more (Some a) None (Some c) here later = cc
Tells-trans writes more (Some a) (Some b) (Some c) here later = Leaves-append writes more a b c here later

Tells-nothing : (contents : Option Contents) → Tells contents contents (Leaves [])
Tells-nothing None = refl
Tells-nothing (Some files) = refl

pub Writes-none : (files : FilesTold) → WritesFiles files files []
Writes-none files = record { contents = Tells-nothing files.contents; reads = Appends-nothing files.reads; told = Appends-nothing files.writes }

pub Writes-trans : (first second third : FilesTold) (writes more : List Write) → WritesFiles first second writes → WritesFiles second third more →
    WritesFiles first third (writes ++ more)
Writes-trans first second third writes more here later = record {
  contents = Tells-trans writes more first.contents second.contents third.contents here.contents later.contents;
  reads = Appends-trans first.reads second.reads third.reads [] [] here.reads later.reads;
  told = Appends-trans first.writes second.writes third.writes writes more here.told later.told;
}

pub Writes-as : (before after : FilesTold) (writes more : List Write) → writes ≡ more → WritesFiles before after writes → WritesFiles before after more
Writes-as before after writes more same done = subst (λ (all : List Write). WritesFiles before after all) same done

-- ---- one write

one_left : (name bytes : List ℕ) (failed : Bool) (before after : Option Contents) → Tells before after (λ files now. LeavesBy failed name bytes files now) →
    Tells before after (Leaves ((name, bytes, failed) ∷ []))
one_left name bytes failed None after leaves = leaves
one_left name bytes failed (Some files) None leaves = tt
one_left name bytes failed (Some files) (Some now) leaves = (now, leaves, refl)

pub one_write : (name bytes : List ℕ) (failed : Bool) (before after : FilesTold) → Tells before.contents after.contents (λ files now. LeavesBy failed name bytes files now) →
    Appends before.reads after.reads [] → Appends before.writes after.writes ((name, bytes, failed) ∷ []) → WritesFiles before after ((name, bytes, failed) ∷ [])
one_write name bytes failed before after leaves reads told = record { contents = one_left name bytes failed before.contents after.contents leaves; reads = reads; told = told }

-- a write by its result, into the file that is named
pub named_ok : {T E : Type 0} (file : Option (List ℕ)) (name text : List ℕ) (before after : FilesTold) (r : Result T E) → file ≡ Some name →
    WritesFiles before after ((name, text, is_err r) ∷ []) → OnOk r (WritesFiles before after (writes_of file text))
named_ok file name text before after (Ok v) is done = subst (λ (f : Option (List ℕ)). WritesFiles before after (writes_of f text)) (sym is) done
named_ok file name text before after (Err e) is done = tt

pub named_err : {T E : Type 0} (file : Option (List ℕ)) (name text : List ℕ) (before after : FilesTold) (r : Result T E) → file ≡ Some name →
    WritesFiles before after ((name, text, is_err r) ∷ []) → OnErr r (FailsToKeep file text before after)
named_err file name text before after (Ok v) is done = tt
named_err file name text before after (Err e) is done = record { name = name; name_is = is; writes = done }

pub unnamed_ok : (file : Option (List ℕ)) (text : List ℕ) (files : FilesTold) → file ≡ None → WritesFiles files files (writes_of file text)
unnamed_ok file text files none = subst (λ (f : Option (List ℕ)). WritesFiles files files (writes_of f text)) (sym none) (Writes-none files)
