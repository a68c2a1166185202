use Rattle.sources65.proofs.SoundSources.{sound_layout}
use Rattle.sources65.proofs.laws.layout_is_well_formed.Goals as goal

pub returns : goal.returns
returns c = sound_layout
