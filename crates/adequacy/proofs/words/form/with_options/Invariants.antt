use Rattle.std.proofs.Common.{◌≡◌, take, fold}
use Rattle.clap.specs.Words.{app_of}
use Rattle.adequacy.specs.Words.{with_option}
use Rattle.adequacy.proofs.words.form.with_options.Given as goal

-- the names so far are options
abbrev pub invariant-loop-name : goal.invariant-loop-name
invariant-loop-name l =
    app_of l.command ≡ fold (λ form name. with_option form name.now) (app_of l.initial.command) (take l.name-index l.names)
