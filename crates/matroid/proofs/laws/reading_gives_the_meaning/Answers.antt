use Rattle.matroid.proofs.FileReading.{reads_meaning}
use Rattle.matroid.proofs.laws.reading_gives_the_meaning.Goals as goal

pub returns : goal.returns
returns c = reads_meaning
