-- What each value of the code's enum `Ending` stands for in the standard's definitions.
use Rattle.lpc_reflection.specs.declared.Ending.{Ending}
use Rattle.lpc_reflection.specs.declared.Ending.TheVariants as Ending-of
use Rattle.standard.specs.Lpc as lpc

-- case by case
unfoldable pub ended : Ending → lpc.Ending
ended Ending-of.Silent = lpc.silent
ended (Ending-of.Stopped n) = lpc.stopped n
ended Ending-of.Complete = lpc.complete
