use Rattle.clap.specs.Words.{found_of}
use Rattle.command_line.proofs.Given.{has_flag, no_flag}
use Rattle.command_line.proofs.words.found_flag.Goals as goal

pub returns-clause-some : goal.returns-clause-some
returns-clause-some c = has_flag _ (found_of c.args.matches.now) c.args.id.now c.get_one.result c.get_one.ensures.none c.get_one.ensures.value

pub returns-clause-none : goal.returns-clause-none
returns-clause-none c = no_flag _ (found_of c.args.matches.now) c.args.id.now c.get_one.result c.get_one.ensures.value
