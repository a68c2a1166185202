-- The error of a line is no system error.
use Rattle.std.proofs.Common.{◌≡◌, ℤ, pos, negsuc, ℕ, Bool, true, false, not, List, [], ◌∷◌, Option, Some, None, refl}
use Rattle.std.specs.Prelude.{⊤, IfSome, ◌==◌, ◌&&◌}
use Rattle.std.specs.List.{list_any}
use Rattle.base65.proofs.SystemErrors.{Own, bad, good}
use Rattle.syntax65.specs.Trees.{Tree, name, unary, binary}
use Rattle.syntax65.specs.declared.lexing.tokens.AddressSize.{AddressSize}
use Rattle.ast65.specs.Faults.{is_system_error}
use Rattle.ast65.specs.declared.language.Statement.TheVariants as statement
use Rattle.semantics65.specs.Layout.{alignment_fault, block_fault, changed_size, context_of, Cursor, defined_twice, first_fault, form_fault, is_not_global, Layout, layout_after, line_fault, missing_scope_fault, missing_scopes_fault, missing_file, alignment_value_fault, opened_twice, operand_fault, or_then, own_size, part_fault, segment_index, layout_faults, pop_fault, powers, scope_name, size_fault, is_global_only, trees_of, unless_fault, fault_if_none, fault_if, fault_if_some}
use Rattle.semantics65.specs.Norms.{constant_in, mode_of}
use Rattle.sources65.specs.Reading.{with_statement}
use Rattle.semantics65.specs.Symbols.{Key, named, cheap_in, unnamed_at, key_defined, Scope, scope_from, scope_in, scope_path, display_name, Symbols, symbols_of, definition_index}
use Rattle.semantics65.specs.Types.{AsmFault, BadAlignment, BadOperand, BadPart, BadScope, DefinedTwice, FileNotFound, NoSuchForm, NoSuchScope, NotUnderstood, SourceLocation, PopWithoutPush, ScopeTwice, SectionTooLarge, SizeChanged, Statement}
use Rattle.semantics65.specs.declared.contexts.Context.{Context}
use Rattle.semantics65.specs.declared.contents.Segment.{Segment}

-- if there is an error, it is no system error
pub record MayFail (o : Option AsmFault) : Type 0 where
  pub own : IfSome o (λ e. is_system_error e ≡ false)

never : MayFail None
never = record { own = tt }

always : (e : AsmFault) → is_system_error e ≡ false → MayFail (Some e)
always e h = record { own = h }

when_own : (b : Bool) (e : AsmFault) → is_system_error e ≡ false → MayFail (fault_if b e)
when_own true e h = always e h
when_own false e h = never

unless_own : {A : Type 0} (o : Option A) (e : AsmFault) → is_system_error e ≡ false → MayFail (fault_if_none o e)
unless_own None e h = always e h
unless_own (Some x) e h = never

where_own : {A : Type 0} (o : Option A) (e : AsmFault) → is_system_error e ≡ false → MayFail (fault_if_some o e)
where_own None e h = never
where_own (Some x) e h = always e h

then_own : (a b : Option AsmFault) → MayFail a → MayFail b → MayFail (or_then a b)
then_own (Some e) b h j = h
then_own None b h j = j

-- ---- Names and scopes.

scope_own : (cs : List Scope) (scope : ℕ) (e : Tree) → MayFail (missing_scope_fault cs scope e)
scope_own cs scope (name false (n ∷ [])) = never
scope_own cs scope (name global parts) = unless_own (scope_from cs scope global (scope_path parts)) (NoSuchScope (display_name global parts)) refl
scope_own cs scope (unary op e) = scope_own cs scope e
scope_own cs scope (binary op e f) = then_own (missing_scope_fault cs scope e) (missing_scope_fault cs scope f) (scope_own cs scope e) (scope_own cs scope f)
scope_own cs scope _ = never

scopes_own : (cs : List Scope) (scope : ℕ) (es : List Tree) → MayFail (missing_scopes_fault cs scope es)
scopes_own cs scope [] = never
scopes_own cs scope (e ∷ es) = then_own (missing_scope_fault cs scope e) (missing_scopes_fault cs scope es) (scope_own cs scope e) (scopes_own cs scope es)

opened_own : (cs : List Scope) (scope : ℕ) (o : Option (List ℕ)) → MayFail (opened_twice cs scope o)
opened_own cs scope None = never
opened_own cs scope (Some n) = where_own (scope_in cs scope n) (ScopeTwice n) refl

twice_own : (y : Symbols) (o : Option Key) → MayFail (defined_twice y o)
twice_own y (Some (named scope n)) = where_own (definition_index y (named scope n)) (DefinedTwice n) refl
twice_own y (Some (cheap_in region n)) = where_own (definition_index y (cheap_in region n)) (DefinedTwice n) refl
twice_own y (Some (unnamed_at k)) = never
twice_own y None = never

-- ---- Operands, files, segments and blocks.

mode_own : (y : Symbols) (s : Context) (own : AddressSize) (x : Statement) → MayFail (form_fault y s own x)
mode_own y s own (statement.Instruction m operand) = unless_own (mode_of y s own m operand) NoSuchForm refl
mode_own y s own _ = never

operand_own : (y : Symbols) (s : Context) (x : Statement) → MayFail (operand_fault y s x)
operand_own y s (statement.Reserve n v) = when_own _ BadOperand refl
operand_own y s (statement.Align n v) = when_own _ BadOperand refl
operand_own y s (statement.Incbin bytes start len) = when_own _ BadOperand refl
operand_own y s _ = never

multiple_own : (o : Option ℤ) → MayFail (alignment_value_fault o)
multiple_own None = always BadAlignment refl
multiple_own (Some (pos n)) = when_own (not (list_any (λ m. m == n) powers)) BadAlignment refl
multiple_own (Some (negsuc n)) = always BadAlignment refl

alignment_own : (y : Symbols) (s : Context) (x : Statement) → MayFail (alignment_fault y s x)
alignment_own y s (statement.Align n v) = multiple_own (constant_in y s n)
alignment_own y s _ = never

missing_own : (x : Statement) → MayFail (missing_file x)
missing_own (statement.Incbin bytes start len) = unless_own bytes FileNotFound refl
missing_own _ = never

part_own : (y : Symbols) (s : Context) (x : Statement) → MayFail (part_fault y s x)
part_own y s (statement.Incbin (Some bytes) start len) = when_own _ BadPart refl
part_own y s (statement.Incbin None start len) = never
part_own y s _ = never

changed_own : (gs : List Segment) (own : Option AddressSize) (o : Option ℕ) → MayFail (changed_size gs own o)
changed_own gs (Some own) (Some i) = when_own _ SizeChanged refl
changed_own gs (Some own) None = never
changed_own gs None o = never

size_own : (gs : List Segment) (x : Statement) → MayFail (size_fault gs x)
size_own gs (statement.Segment n own) = changed_own gs own (segment_index gs n)
size_own gs _ = never

block_own : (cs : List Scope) (scope : ℕ) (x : Statement) → MayFail (block_fault cs scope x)
block_own cs scope statement.CloseScope = when_own _ BadScope refl
block_own cs scope statement.CloseProc = when_own _ BadScope refl
block_own cs scope _ = never

pop_own : (kept : List ℕ) (x : Statement) → MayFail (pop_fault kept x)
pop_own kept statement.PopSegment = when_own _ PopWithoutPush refl
pop_own kept _ = never

-- ---- A line.

abbrev AllMayFail : List (Option AsmFault) → Type 0
AllMayFail [] = ⊤
AllMayFail (o ∷ os) = MayFail o × AllMayFail os

first_own : (os : List (Option AsmFault)) → AllMayFail os → MayFail (first_fault os)
first_own [] h = never
first_own (Some e ∷ os) h = h.0
first_own (None ∷ os) h = first_own os h.1

placing_own : (y : Symbols) (w : Cursor) (x : Statement) → AllMayFail (layout_faults y w x)
placing_own y w x = (
  mode_own y (context_of w) (own_size w) x,
  (
    operand_own y (context_of w) x,
    (
      alignment_own y (context_of w) x,
      (
        missing_own x,
        (
          part_own y (context_of w) x,
          (
            size_own w.segments x,
            (
              block_own y.scopes w.scope x,
              (
                pop_own w.pushed_segments x,
                (when_own _ SectionTooLarge refl, tt),
              ),
            ),
          ),
        ),
      ),
    ),
  ),
)

line_own : (y : Symbols) (w : Cursor) (x : Statement) → MayFail (line_fault y w x)
line_own y w x = first_own
    (fault_if (is_global_only x && is_not_global w.scope) NotUnderstood
    ∷ missing_scopes_fault y.scopes w.scope (trees_of x)
    ∷ opened_twice y.scopes w.scope (scope_name x)
    ∷ defined_twice y (key_defined (context_of w) x)
    ∷ layout_faults y w x) (
      when_own _ NotUnderstood refl,
      (
        scopes_own y.scopes w.scope (trees_of x),
        (
          opened_own y.scopes w.scope (scope_name x),
          (
            twice_own y (key_defined (context_of w) x),
            placing_own y w x,
          ),
        ),
      ),
    )

found_own : {A : Type 0} (o : Option AsmFault) (x : A) → MayFail o → Own is_system_error (unless_fault o x)
found_own None x h = good x
found_own (Some e) x h = bad e h.own

pub statement_own : (y : Layout) (location : SourceLocation) (x : Statement) → Own is_system_error (with_statement y location x)
statement_own y location x = found_own (line_fault (symbols_of y.laid) y.cursor x) (layout_after y location x) (line_own (symbols_of y.laid) y.cursor x)
