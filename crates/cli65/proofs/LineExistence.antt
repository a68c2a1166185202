-- Any arguments parse to a command line or to `BadArguments`.
use Rattle.std.proofs.Common.{◌+◌, ℕ, List, [], ◌∷◌, take, drop, Option, Some, None, Result, Ok, Err, refl}
use Rattle.std.specs.Prelude.{◌==◌, codes}
use Rattle.std.specs.List.{position}
use Rattle.std.specs.Str.{bytes_eq}
use Rattle.clap.specs.Words.{Kinds, Row, Text, fault_of, subcommand_of}
use Rattle.base65.proofs.SystemErrors.{Own, bad, choice, each_own, good, next}
use Rattle.base65.specs.Outcome.{try_map}
use Rattle.cli65.specs.CommandLine.{bin65}
use Rattle.cli65.specs.Defining.{as_value, define_at, define_of, is_constant_name, checked_name, number_in, checked_number}
use Rattle.cli65.specs.Laws.{LineExists}
use Rattle.cli65.specs.Line.{ArchiveView, AssembleView, argument_values, archive_view_of, as_archive, as_assemble, assemble_view_of, argument_value, line_of, operation_of, command_of_matches, subcommand_view, clap_matches, unless_errors}
use Rattle.cli65.specs.LineFaults.{is_system_error}
use Rattle.cli65.specs.declared.fault.LineFault.{LineFault}
use Rattle.cli65.specs.declared.fault.LineFault.TheVariants.{BadArguments}

name_own : (name : Text) → Own is_system_error (checked_name name)
name_own name = choice (is_constant_name name) _ _ (good _) (bad BadArguments refl)

as_value_own : (v : Option ℕ) → Own is_system_error (as_value v)
as_value_own (Some v) = good v
as_value_own None = bad BadArguments refl

value_own : (text : Text) → Own is_system_error (checked_number text)
value_own text = as_value_own (number_in text)

at_own : (text : Text) (offset : Option ℕ) → Own is_system_error (define_at text offset)
at_own text None = next (checked_name text) _ (name_own text) (λ n. good _)
at_own text (Some i) = next (checked_name (take i text)) _ (name_own (take i text)) (λ n. next (checked_number (drop (i + 1) text)) _ (value_own (drop (i + 1) text)) (λ v. good _))

define_own : (text : Text) → Own is_system_error (define_of text)
unfolding define_of
define_own text = at_own text (position (λ b. b == 61) text)

assembling_own : (rows : List Row) → Own is_system_error (assemble_view_of rows)
unfolding assemble_view_of
assembling_own rows = next (try_map define_of (argument_values (codes "define") rows)) _ (each_own define_of define_own (argument_values (codes "define") rows)) (λ defines. good _)

operation_own : (arg : Text) → Own is_system_error (operation_of arg)
unfolding operation_of
operation_own arg =
    choice (bytes_eq arg (codes "r")) _ _ (good _)
    (choice (bytes_eq arg (codes "d")) _ _ (good _)
    (choice (bytes_eq arg (codes "t")) _ _ (good _)
    (choice (bytes_eq arg (codes "x")) _ _ (good _) (bad BadArguments refl))))

archiving_own : (rows : List Row) → Own is_system_error (archive_view_of rows)
unfolding archive_view_of
archiving_own rows = next (operation_of (argument_value (codes "operation") rows)) _ (operation_own (argument_value (codes "operation") rows)) (λ operation. good _)

assemble_own : (r : Result AssembleView LineFault) → Own is_system_error r → Own is_system_error (as_assemble r)
assemble_own (Ok a) h = good _
assemble_own (Err e) h = record { own = h.own }

archive_own : (r : Result ArchiveView LineFault) → Own is_system_error r → Own is_system_error (as_archive r)
archive_own (Ok a) h = good _
archive_own (Err e) h = record { own = h.own }

said_by_own : (name : Text) (rows : List Row) → Own is_system_error (subcommand_view name rows)
unfolding subcommand_view
said_by_own name rows =
    choice (bytes_eq name (codes "ca65")) _ _ (assemble_own (assemble_view_of rows) (assembling_own rows))
    (choice (bytes_eq name (codes "ld65")) _ _ (good _)
    (choice (bytes_eq name (codes "ar65")) _ _ (archive_own (archive_view_of rows) (archiving_own rows)) (bad BadArguments refl)))

said_own : (found : Option (Text × List Row)) → Own is_system_error (command_of_matches found)
said_own None = bad BadArguments refl
said_own (Some p) = said_by_own p.0 p.1

kinds_own : {A : Type 0} (kinds : Kinds) (x : A) → Own is_system_error (unless_errors kinds x)
kinds_own [] x = good x
kinds_own (k ∷ ks) x = bad BadArguments refl

taken_own : (args : List Text) → Own is_system_error (clap_matches args)
unfolding clap_matches
taken_own args = kinds_own (fault_of bin65 args) (subcommand_of bin65 args)

line_own : (args : List Text) → Own is_system_error (line_of args)
unfolding line_of
line_own args = next (clap_matches args) command_of_matches (taken_own args) said_own

pub some_line : LineExists
some_line args = (line_own args).own
