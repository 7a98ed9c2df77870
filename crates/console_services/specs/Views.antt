-- What the code's replies stand for.
use Rattle.console_services.specs.Console.{Reply, Answers, Prints}
use Rattle.console_services.specs.declared.text.Reply as code
use Rattle.console_services.specs.declared.text.Reply.TheVariants as replies

abbrev pub reply_of : code.Reply → Reply
reply_of (replies.Answers a0) = Answers a0
reply_of (replies.Prints text a0) = Prints text a0
