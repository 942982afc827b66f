-- What a write into a list of files leaves.
use Rattle.std.proofs.Common.{◌≡◌, ℕ, List, refl, sym, subst, ◌∙◌}
use Rattle.std.proofs.lemmas.Slice.Eq.{bytes_eq-Decides}
use Rattle.std.specs.Str.{bytes_eq}
use Rattle.wire_base.specs.Maps.{put, IsSameness}
use Rattle.wire_base.proofs.MapLaws.{lookup-put_same, put_others}
use Rattle.outside.specs.Contents.{Writes}

-- names are the same where they are equal
same_bytes : IsSameness bytes_eq
same_bytes = record {
  reflexive = λ key. (bytes_eq-Decides key key).1 refl;
  symmetric = λ one other e. (bytes_eq-Decides other one).1 (sym ((bytes_eq-Decides one other).0 e));
  transitive = λ one other third e f. (bytes_eq-Decides one third).1 ((bytes_eq-Decides one other).0 e ∙ (bytes_eq-Decides other third).0 f);
}

pub put_writes : (files : List (List ℕ × List ℕ)) (name bytes : List ℕ) → Writes files (put bytes_eq name bytes files) name bytes
put_writes files name bytes = record {
  written = lookup-put_same bytes_eq name bytes files (same_bytes.reflexive name);
  others = λ other differs. put_others bytes_eq name other bytes files same_bytes differs;
}

-- a file is written where the files behind it are known by an equation
pub writes_by : (files now : List (List ℕ × List ℕ)) (name bytes : List ℕ) → now ≡ put bytes_eq name bytes files → Writes files now name bytes
writes_by files now name bytes e = subst (λ x. Writes files x name bytes) (sym e) (put_writes files name bytes)
