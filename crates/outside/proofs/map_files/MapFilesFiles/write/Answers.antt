use Rattle.std.proofs.Common.{◌∙◌, ap}
use Rattle.std.specs.Str.{bytes_eq}
use Rattle.wire_base.specs.Maps.{put}
use Rattle.outside.specs.Scripts.{FilesScript}
use Rattle.outside.proofs.FileLaws.{writes_by}
use Rattle.outside.proofs.map_files.MapFilesFiles.write.Goals as goal

pub returns-in-Ok-clause-contents : goal.returns-in-Ok-clause-contents
returns-in-Ok-clause-contents c =
    writes_by c.args.self.now.files _ c.args.name.now c.args.bytes.now
    (ap (λ (s : FilesScript). s.files) c.keep_write.ensures.others
    ∙ ap (λ (s : FilesScript). s.files) c.in-Ok.ensures.put
    ∙ ap (λ (s : FilesScript). put bytes_eq c.args.name.now c.args.bytes.now s.files) c.self.view_is)
