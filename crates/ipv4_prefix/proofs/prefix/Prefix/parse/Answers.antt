use Rattle.std.proofs.Common.{Err, arith, ◌∙◌}
use Rattle.std.proofs.lemmas.Result.{err_from_is_err_and}
use Rattle.ipv4_prefix.specs.declared.fault.PrefixFault.TheVariants.{NoSlash}
use Rattle.ipv4_prefix.proofs.PrefixTexts.{no_slash, IsRightAnswer, every_prefix, every_fault}
use Rattle.ipv4_prefix.proofs.Parsing.{IsSplit, refused_address, refused_length, right_block, right_fault}
use Rattle.ipv4_prefix.proofs.prefix.Prefix.parse.Goals as goal
use Rattle.ipv4_prefix.proofs.prefix.Prefix.parse.Goals.{In-Some}

-- no slash

unsplit : (c : goal.In_default) → IsRightAnswer c.args.text.now (Err NoSlash)
unsplit c = record { read = tt; fault = no_slash _ (c.in_default.ensures.byte (omega arith) (λ w o finds. finds)) }

pub returns-in_default : goal.returns-in_default
returns-in_default c = record {
  read = tt;
  every_prefix = every_prefix _ _ (unsplit c);
  fault = (unsplit c).fault;
  every_fault = every_fault _ _ (unsplit c);
}

-- what stands round the first slash
split : (c : In-Some) → IsSplit c.args.text.now c.in-Some.addr.now c.in-Some.len.now
split c =
    let parts = c.in-Some.ensures.byte (omega arith) (λ w o finds. finds) in
    record { found = parts.2; before_is = parts.0; after_is = parts.1 }

-- no address before it

right_addr : (c : goal.After-from_residual) → IsRightAnswer c.args.text.now c.from_residual.result
right_addr c =
    let returned = err_from_is_err_and c.from_residual.result c.from_residual.ensures.1 in
    let refused = refused_address _ _ _ (split (goal.at.returns-in_err-addr c).In-Some) c.in_err-addr.ensures.no_address in
    right_fault _ _ _ _ returned.1 (returned.2 ∙ c.in_err-addr.ensures.bad_address) refused

pub returns-in_err-addr : goal.returns-in_err-addr
returns-in_err-addr c = record {
  read = (right_addr c).read;
  every_prefix = every_prefix _ _ (right_addr c);
  fault = (right_addr c).fault;
  every_fault = every_fault _ _ (right_addr c);
}

-- no length after it

right_len : (c : goal.After-from_residual-in_err-len) → IsRightAnswer c.args.text.now c.from_residual-in_err-len.result
right_len c =
    let returned = err_from_is_err_and c.from_residual-in_err-len.result c.from_residual-in_err-len.ensures.1 in
    let refused = refused_length _ _ _ (split (goal.at.returns-in_err-len c).In-Some) _ c.in_ok-addr.ensures.read c.in_err-len.ensures.no_length in
    right_fault _ _ _ _ returned.1 (returned.2 ∙ c.in_err-len.ensures.bad_length) refused

pub returns-in_err-len : goal.returns-in_err-len
returns-in_err-len c = record {
  read = (right_len c).read;
  every_prefix = every_prefix _ _ (right_len c);
  fault = (right_len c).fault;
  every_fault = every_fault _ _ (right_len c);
}

-- an address and a length

right_new : (c : goal.After-new) → IsRightAnswer c.args.text.now c.new.result
right_new c =
    right_block _ _ _ (split (goal.at.returns c).In-Some) _ _ c.in_ok-addr.ensures.read c.in_ok-len.ensures.read _ c.new.ensures.made c.new.ensures.exactly c.new.ensures.host_bits

pub returns : goal.returns
returns c = record {
  read = (right_new c).read;
  every_prefix = every_prefix _ _ (right_new c);
  fault = (right_new c).fault;
  every_fault = every_fault _ _ (right_new c);
}
