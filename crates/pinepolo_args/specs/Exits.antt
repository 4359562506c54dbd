-- Why words give no request.
use Rattle.std.specs.Prelude.{◌≡◌, ◌⊎◌}
use Rattle.clap.specs.declared.error.kind.ErrorKind.{ErrorKind}
use Rattle.clap.specs.declared.error.kind.ErrorKind.TheVariants.{DisplayHelp, DisplayVersion}
use Rattle.pinepolo_args.specs.declared.parsing.ParseExit.{ParseExit}
use Rattle.pinepolo_args.specs.declared.parsing.ParseExit.TheVariants as exit

-- the help or the version is printed
abbrev pub IsHelp : ParseExit → Type 0
IsHelp (exit.Help _) = Unit {0}
IsHelp _ = ⊥

-- the words asked for the help or the version
abbrev pub AsksForHelp : ErrorKind → Type 0
AsksForHelp kind = (kind ≡ DisplayHelp) ⊎ (kind ≡ DisplayVersion)
