-- One name, `opened`, that lets a computed case unfold every definition of this crate.
use mathlib.Core.List.{zip_with, zip, flatten}
use Rattle.math_lists.specs.First.{first}
use Rattle.math_lists.specs.Best.{largest, best}
use Rattle.math_lists.specs.Tab.{tab}
use Rattle.math_lists.specs.Scan.{run}
use Rattle.math_lists.specs.Cut.{cut}
use Rattle.math_lists.specs.Every.{every}
use Rattle.standard.specs.Arithmetic.{clip, modulo, keep, plus, minus, shl, shr, mult, mult_r, abs, div, L_mult, norm, peak, L_sum, L_squares}
use Rattle.standard.specs.Tables.{A, B, MIC, MAC, INVA, DLB, QLB, H, NRFAC, FAC, LARc_widths}
use Rattle.standard.specs.Frame.{sample, sub_words, words, places, sub_widths, widths, valid, sub_received, received}
use Rattle.standard.specs.Preprocessing.{downscaled, recursive, offset, emphasis}
use Rattle.standard.specs.Lpc.{scalauto, scaled, rescaled, L_ACF, normalized, ACF, reflection, measured, schur, ending, r, with_sign, area_ratio, LAR, clamped, LARc, ratio_codes}
use Rattle.standard.specs.ShortTerm.{LARpp, ratios, stretches, from_ratio, rp, stretch, coefficients, section, analysed}
use Rattle.standard.specs.LongTerm.{back, scal, correlations, lag_search, Nc, L_power, gain_level, bc, dpp, residual}
use Rattle.standard.specs.Rpe.{filtered, weighted, grid, Mc, exponent, xmaxc, mantissa, amplitude, xMc, xMp, ep, reconstructed, updated}
use Rattle.standard.specs.Coder.{analysis, sub_coded, sub_step, frame, coded}
use Rattle.standard.specs.Decoder.{Nr, sub_decoded, inverse_section, synthesised, de_emphasis, srop, decoded}
use Rattle.standard.specs.Packed.{binary, value, frame_bits, packed, byte_bits, unpacked, spare}
use Rattle.standard.specs.Files.{file_words, file_bytes}
use Rattle.standard.specs.Alaw.{magnitude, expanded, segment, placed, compressed, alaw_samples, alaw_octets}
use Rattle.standard.specs.House.{home_coder, home_decoder, sound_coder, sound_decoder, mark, refusal, fit, fits, encode_refusal, decode_refusal, decode_alaw_refusal, pack_refusal, unpack_refusal}
use Rattle.standard.specs.Answers.{answer, encode, decode, decode_alaw, pack, unpack}
use Rattle.standard.specs.Listing.{text, digits, decimal, word, ending_text, mark_text, line, header, F_line, S_line, numbered, frame_lines, E_line, frames, listing}

unfoldable pub opened : Unit {0}
unfolding
    first largest best tab run cut zip_with zip flatten clip modulo keep plus minus shl shr mult mult_r abs div L_mult norm peak L_sum
    L_squares A B MIC MAC INVA DLB QLB H NRFAC FAC LARc_widths sample sub_words words places sub_widths widths valid sub_received
    received downscaled recursive offset emphasis scalauto scaled rescaled L_ACF normalized ACF reflection measured schur ending r
    with_sign area_ratio LAR clamped LARc ratio_codes LARpp ratios stretches from_ratio rp stretch coefficients section analysed back
    scal correlations lag_search Nc L_power gain_level bc dpp residual filtered weighted grid Mc exponent xmaxc mantissa amplitude xMc
    xMp ep reconstructed updated analysis sub_coded sub_step frame coded Nr sub_decoded inverse_section synthesised de_emphasis srop
    decoded binary value frame_bits packed byte_bits unpacked spare magnitude expanded segment placed compressed alaw_samples alaw_octets
    home_coder home_decoder sound_coder sound_decoder mark refusal fit fits encode_refusal decode_refusal decode_alaw_refusal
    pack_refusal unpack_refusal answer encode decode decode_alaw pack unpack text digits decimal word ending_text mark_text line header
    F_line S_line numbered frame_lines E_line file_words file_bytes frames listing every
opened = tt
