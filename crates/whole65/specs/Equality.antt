-- The whole program of sources, and a link of their objects.
use Rattle.std.specs.Prelude.{◌≡◌, ℕ, ◌↔◌, List, Ok}
use Rattle.script65.specs.declared.script.Script.{Script}
use Rattle.semantics65.specs.Layout.{Layout}
use Rattle.link65.specs.Links.{LinkOf}
use Rattle.link65.specs.Programs.{Module}
use Rattle.link65.specs.declared.linking.Linked.{Linked}
use Rattle.base65.specs.declared.output.OutputFile.{OutputFile}
use Rattle.whole65.specs.Sources.{AreObjectsOfLayouts}
use Rattle.whole65.specs.Whole.{IsWholeProgramImage}

-- A script links modules to these files, with some warnings and some map.
pub record IsLinkedTo (output_name : List ℕ) (s : Script) (ms : List Module) (files : List OutputFile) : Type 0 where
  pub linked : Linked
  pub link : LinkOf output_name s ms (Ok linked)
  pub same : linked.files ≡ files

-- Linking the objects of sources gives files if and only if their whole program has an image, and these files are the image.
abbrev pub LinkEqualsWholeProgram : Type 0
LinkEqualsWholeProgram =
    (output_name : List ℕ) (s : Script) (ys : List Layout) (ms : List Module) (files : List OutputFile) →
    AreObjectsOfLayouts ys ms → IsWholeProgramImage output_name s ys files ↔ IsLinkedTo output_name s ms files
