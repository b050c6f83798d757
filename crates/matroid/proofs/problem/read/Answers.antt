-- What was read is what the file means, and a refusal is its first fault.
use Rattle.matroid.proofs.FileReading.{read_cases}
use Rattle.matroid.proofs.problem.read.Goals as goal

pub returns : goal.returns
returns c = record { answer = c.read_parts.ensures; meaning = read_cases c.args.file.now c.read_parts.result c.read_parts.ensures }
