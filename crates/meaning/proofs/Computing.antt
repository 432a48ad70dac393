-- What has to unfold for an answer to be computed, under one name: a theorem says `unfolding computing`.
use lib.Ieee.{of_bits, to_unsigned, eq}
use Rattle.meaning.specs.Base.{lowest_by, lowest, count}
use Rattle.meaning.specs.Fields.{whole, fields_by, left_by, fields, left, words}
use Rattle.meaning.specs.Grammar.{bounds, bound, inside, names, lawful, grammar, items_of, spread_kinds, spread, items_in, items_for, wide_marks, marked, short, due_words, words_of, ends, kind_of, due_after, fits, kids, shape_at}
use Rattle.meaning.specs.Tree.{kids_of, all_kids, tree_at, parent_by, parent_of, depth_by, depth_of, depth_at}
use Rattle.meaning.specs.Check.{framed, unless, work_for, checked_work, current, current_at, checked_fields, checked_tree, checked}
use Rattle.meaning.specs.Constant.{small_value, small}
use Rattle.meaning.specs.Syntax.{small_operand, small_if}
use Rattle.meaning.specs.Read.{readers, read_program}
use Rattle.meaning.specs.State.{and_then, ◌>>=◌, ◌>>◌, pure, refuse, if_then, only_if, get, set_current, next_register, allocate_register, enter_block, leave_block, in_block, enter_loop, leave_loop, in_loop, add_constant, is_global_context, is_global_var, add_global, get_var_register, search_outward, searched, get_upvalue, enter_function, add_prototype, close_function, in_function}
use Rattle.meaning.specs.Expressions.{visit_literal, named, visit_outside, visit_captured, visit_local, visit_variable, visit_unary, visit_addi, visit_both, visit_dropped, visit_binary, visit_logical, next_registers, visit_call, visit_argument}
use Rattle.meaning.specs.Functions.{parameters, return_of_code, close_body, visit_body, function_code, visit_function, fun_code, define_name, declare_name, visit_fun}
use Rattle.meaning.specs.Statements.{new_global, visit_let_as, visit_let_only, visit_block, visit_while, visit_classic_for, iterate_each, iterate, visit_for_in, visit_jump, visit_return, visit_return_none, visit_if, visit_elif, visit_catch, visit_try, visit_super, visit_method, visit_methods, visit_class}
use Rattle.meaning.specs.Lower.{fun_name, row, lower_program, lower_expr}
use Rattle.meaning.specs.Image.{image}
use Rattle.meaning.specs.Answer.{finished}
use Rattle.meaning.specs.Visits.{visits_super, under_expr}

unfoldable pub computing : Unit {0}
unfolding of_bits to_unsigned eq lowest_by lowest count whole fields_by left_by fields left words bounds bound inside names lawful grammar items_of spread_kinds spread items_in items_for wide_marks marked short due_words words_of ends kind_of due_after fits kids shape_at kids_of all_kids tree_at parent_by parent_of depth_by depth_of depth_at framed unless work_for checked_work current current_at checked_fields checked_tree checked small_value small small_operand small_if readers read_program and_then ◌>>=◌ ◌>>◌ pure refuse if_then only_if get set_current next_register allocate_register enter_block leave_block in_block enter_loop leave_loop in_loop add_constant is_global_context is_global_var add_global get_var_register search_outward searched get_upvalue enter_function add_prototype close_function in_function visit_literal named visit_outside visit_captured visit_local visit_variable visit_unary visit_addi visit_both visit_dropped visit_binary visit_logical next_registers visit_call visit_argument parameters return_of_code close_body visit_body function_code visit_function fun_code define_name declare_name visit_fun new_global visit_let_as visit_let_only visit_block visit_while visit_classic_for iterate_each iterate visit_for_in visit_jump visit_return visit_return_none visit_if visit_elif visit_catch visit_try visit_super visit_method visit_methods visit_class fun_name row lower_program lower_expr image finished visits_super under_expr
computing = tt
