use Rattle.clap.specs.Words.{found_of}
use Rattle.command_line.proofs.Given.{flag_read}
use Rattle.command_line.proofs.words.flag.Goals as goal

pub returns : goal.returns
returns c = flag_read (found_of c.args.matches.now) c.args.id.now c.get_flag.result c.get_flag.ensures.value c.get_flag.ensures.other
