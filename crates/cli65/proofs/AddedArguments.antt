-- A command to which an argument or a subcommand is added represents what it represented, with that.
use Rattle.std.proofs.Common.{◌≡◌, ◌∙◌, Err, Ok, Result, ap}
use Rattle.std.specs.Prelude.{IfOk}
use Rattle.std.specs.declared.alloc.AllocError.{AllocError}
use Rattle.clap.specs.Words.{AddsSubcommand, App, Rule, app_of, with_rule, with_subcommand}
use Rattle.clap.specs.declared.builder.command.Command.{Command}
use Rattle.cli65.specs.CommandLine.{AddsArgument, RepresentsApp}

pub with_argument : {old new : Command} {r : Rule} (a : App) → RepresentsApp a old → AddsArgument old r new
    → RepresentsApp (with_rule a r) new
with_argument {r = r} a represents adds = record {
  app = adds.app ∙ ap (λ (x : App). with_rule x r) represents.app;
  local = adds.local ∙ represents.local;
}

pub with_last_argument : (old : Command) (r : Rule) (a : App) (result : Result Command AllocError) → RepresentsApp a old
    → IfOk result (λ new. AddsArgument old r new) → IfOk result (λ new. RepresentsApp (with_rule a r) new)
with_last_argument old r a (Ok new) represents adds = with_argument a represents adds
with_last_argument old r a (Err e) represents adds = tt

pub with_command : {old sub new : Command} (a b : App) → app_of old ≡ a → RepresentsApp b sub
    → AddsSubcommand old sub new → app_of new ≡ with_subcommand a b.top
with_command {sub = sub} a b is represents adds =
    adds.shape represents.local ∙ ap (λ (x : App). with_subcommand x (app_of sub).top) is
    ∙ ap (λ (x : App). with_subcommand a x.top) represents.app

pub with_last_command : (old sub : Command) (a b : App) (result : Result Command AllocError) → app_of old ≡ a
    → RepresentsApp b sub → IfOk result (λ new. AddsSubcommand old sub new)
    → IfOk result (λ new. app_of new ≡ with_subcommand a b.top)
with_last_command old sub a b (Ok new) is represents adds = with_command a b is represents adds
with_last_command old sub a b (Err e) is represents adds = tt
