use Rattle.sources65.proofs.SoundContents.{sound_contents}
use Rattle.sources65.proofs.laws.contents_are_well_formed.Goals as goal

pub returns : goal.returns
returns c = sound_contents
