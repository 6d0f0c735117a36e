-- Frames of the vectors, decoded. Written by outside/write_trials.py.
use Rattle.std.specs.Prelude.{◌≡◌, refl, [], ◌∷◌, pos, replicate}
use Rattle.standard.specs.Tables.{neg}
use Rattle.standard.specs.Answers.{decode}
use Rattle.standard.specs.Opened.{opened}

-- random codewords, from home
pub d01_random_0 : decode (record { drp = pos 0 ∷ pos 0 ∷ pos 0 ∷ pos 0 ∷ pos 0 ∷ pos 0 ∷ pos 0 ∷ pos 0 ∷ pos 0 ∷ pos 0 ∷ pos 0 ∷ pos 0 ∷ pos 0 ∷ pos 0 ∷ pos 0 ∷ pos 0 ∷ pos 0 ∷ pos 0 ∷ pos 0 ∷ pos 0 ∷ pos 0 ∷ pos 0 ∷ pos 0 ∷ pos 0 ∷ pos 0 ∷ pos 0 ∷ pos 0 ∷ pos 0 ∷ pos 0 ∷ pos 0 ∷ pos 0 ∷ pos 0 ∷ pos 0 ∷ pos 0 ∷ pos 0 ∷ pos 0 ∷ pos 0 ∷ pos 0 ∷ pos 0 ∷ pos 0 ∷ pos 0 ∷ pos 0 ∷ pos 0 ∷ pos 0 ∷ pos 0 ∷ pos 0 ∷ pos 0 ∷ pos 0 ∷ pos 0 ∷ pos 0 ∷ pos 0 ∷ pos 0 ∷ pos 0 ∷ pos 0 ∷ pos 0 ∷ pos 0 ∷ pos 0 ∷ pos 0 ∷ pos 0 ∷ pos 0 ∷ pos 0 ∷ pos 0 ∷ pos 0 ∷ pos 0 ∷ pos 0 ∷ pos 0 ∷ pos 0 ∷ pos 0 ∷ pos 0 ∷ pos 0 ∷ pos 0 ∷ pos 0 ∷ pos 0 ∷ pos 0 ∷ pos 0 ∷ pos 0 ∷ pos 0 ∷ pos 0 ∷ pos 0 ∷ pos 0 ∷ pos 0 ∷ pos 0 ∷ pos 0 ∷ pos 0 ∷ pos 0 ∷ pos 0 ∷ pos 0 ∷ pos 0 ∷ pos 0 ∷ pos 0 ∷ pos 0 ∷ pos 0 ∷ pos 0 ∷ pos 0 ∷ pos 0 ∷ pos 0 ∷ pos 0 ∷ pos 0 ∷ pos 0 ∷ pos 0 ∷ pos 0 ∷ pos 0 ∷ pos 0 ∷ pos 0 ∷ pos 0 ∷ pos 0 ∷ pos 0 ∷ pos 0 ∷ pos 0 ∷ pos 0 ∷ pos 0 ∷ pos 0 ∷ pos 0 ∷ pos 0 ∷ pos 0 ∷ pos 0 ∷ pos 0 ∷ pos 0 ∷ pos 0 ∷ pos 0 ∷ []; nrp = pos 40; LARpp = pos 0 ∷ pos 0 ∷ pos 0 ∷ pos 0 ∷ pos 0 ∷ pos 0 ∷ pos 0 ∷ pos 0 ∷ []; v = pos 0 ∷ pos 0 ∷ pos 0 ∷ pos 0 ∷ pos 0 ∷ pos 0 ∷ pos 0 ∷ pos 0 ∷ []; msr = pos 0 }) (pos 7 ∷ pos 14 ∷ pos 26 ∷ pos 16 ∷ pos 4 ∷ pos 11 ∷ pos 6 ∷ pos 2 ∷ pos 78 ∷ pos 3 ∷ pos 3 ∷ pos 54 ∷ pos 6 ∷ pos 5 ∷ pos 0 ∷ pos 2 ∷ pos 3 ∷ pos 0 ∷ pos 2 ∷ pos 7 ∷ pos 6 ∷ pos 7 ∷ pos 2 ∷ pos 0 ∷ pos 3 ∷ pos 117 ∷ pos 1 ∷ pos 0 ∷ pos 54 ∷ pos 5 ∷ pos 7 ∷ pos 0 ∷ pos 4 ∷ pos 2 ∷ pos 7 ∷ pos 6 ∷ pos 3 ∷ pos 2 ∷ pos 7 ∷ pos 1 ∷ pos 3 ∷ pos 4 ∷ pos 12 ∷ pos 2 ∷ pos 0 ∷ pos 63 ∷ pos 7 ∷ pos 1 ∷ pos 2 ∷ pos 0 ∷ pos 1 ∷ pos 2 ∷ pos 6 ∷ pos 2 ∷ pos 0 ∷ pos 3 ∷ pos 4 ∷ pos 4 ∷ pos 7 ∷ pos 46 ∷ pos 3 ∷ pos 1 ∷ pos 39 ∷ pos 0 ∷ pos 7 ∷ pos 3 ∷ pos 1 ∷ pos 0 ∷ pos 7 ∷ pos 1 ∷ pos 1 ∷ pos 1 ∷ pos 3 ∷ pos 1 ∷ pos 7 ∷ pos 0 ∷ []) (replicate 160 (pos 0)) ≡ record { number = 0; state = record { drp = pos 5760 ∷ pos 0 ∷ pos 0 ∷ pos 13440 ∷ pos 0 ∷ pos 0 ∷ neg 13439 ∷ pos 0 ∷ pos 0 ∷ pos 1920 ∷ pos 0 ∷ pos 0 ∷ neg 5760 ∷ pos 0 ∷ pos 0 ∷ pos 13440 ∷ pos 0 ∷ pos 0 ∷ pos 9600 ∷ pos 0 ∷ pos 0 ∷ neg 1920 ∷ pos 0 ∷ pos 0 ∷ neg 5760 ∷ pos 0 ∷ pos 0 ∷ pos 13440 ∷ pos 0 ∷ pos 0 ∷ neg 9599 ∷ pos 0 ∷ pos 0 ∷ neg 1920 ∷ pos 0 ∷ pos 0 ∷ pos 1920 ∷ pos 0 ∷ pos 0 ∷ pos 0 ∷ pos 28671 ∷ pos 0 ∷ pos 0 ∷ neg 20479 ∷ pos 0 ∷ pos 0 ∷ neg 12288 ∷ pos 0 ∷ pos 0 ∷ neg 28671 ∷ pos 0 ∷ pos 0 ∷ neg 20479 ∷ pos 0 ∷ pos 0 ∷ neg 12288 ∷ pos 0 ∷ pos 0 ∷ pos 20479 ∷ pos 0 ∷ pos 0 ∷ neg 12288 ∷ pos 0 ∷ pos 0 ∷ neg 28671 ∷ pos 0 ∷ pos 0 ∷ neg 4096 ∷ pos 0 ∷ pos 0 ∷ pos 4096 ∷ pos 0 ∷ pos 0 ∷ pos 4096 ∷ pos 0 ∷ pos 0 ∷ pos 28671 ∷ pos 0 ∷ pos 0 ∷ pos 0 ∷ pos 0 ∷ neg 3584 ∷ pos 1920 ∷ pos 0 ∷ pos 3584 ∷ pos 0 ∷ pos 28670 ∷ neg 512 ∷ pos 0 ∷ neg 20478 ∷ neg 2560 ∷ pos 0 ∷ neg 12288 ∷ neg 3584 ∷ pos 0 ∷ neg 28670 ∷ pos 3584 ∷ pos 0 ∷ neg 20478 ∷ neg 2560 ∷ pos 0 ∷ neg 12288 ∷ neg 2560 ∷ pos 0 ∷ pos 20478 ∷ neg 2560 ∷ pos 0 ∷ neg 12288 ∷ neg 512 ∷ pos 0 ∷ neg 28670 ∷ neg 2560 ∷ pos 0 ∷ neg 4096 ∷ pos 3584 ∷ pos 0 ∷ pos 4096 ∷ neg 3584 ∷ pos 0 ∷ pos 4096 ∷ []; nrp = pos 46; LARpp = neg 20480 ∷ neg 14746 ∷ pos 4916 ∷ pos 4096 ∷ neg 5026 ∷ pos 7100 ∷ pos 5242 ∷ pos 436 ∷ []; v = neg 30206 ∷ neg 3978 ∷ neg 2344 ∷ pos 1393 ∷ pos 5387 ∷ neg 2925 ∷ pos 447 ∷ pos 2913 ∷ []; msr = neg 32768 }; samples = pos 0 ∷ pos 0 ∷ pos 0 ∷ pos 19200 ∷ pos 21472 ∷ pos 24768 ∷ pos 32760 ∷ pos 32552 ∷ pos 32760 ∷ pos 1888 ∷ neg 6096 ∷ neg 14520 ∷ neg 27512 ∷ neg 32768 ∷ neg 32768 ∷ neg 32768 ∷ neg 32768 ∷ neg 32768 ∷ neg 32768 ∷ neg 32768 ∷ neg 32768 ∷ neg 32768 ∷ neg 32768 ∷ neg 32768 ∷ neg 32768 ∷ neg 28208 ∷ neg 7536 ∷ pos 21704 ∷ pos 32760 ∷ pos 32760 ∷ pos 32760 ∷ pos 32760 ∷ pos 32760 ∷ pos 32760 ∷ pos 32760 ∷ pos 32760 ∷ pos 32760 ∷ pos 32760 ∷ pos 32760 ∷ pos 32760 ∷ pos 32760 ∷ pos 32760 ∷ pos 32760 ∷ pos 32760 ∷ pos 32760 ∷ pos 32760 ∷ pos 12936 ∷ pos 8512 ∷ neg 28160 ∷ neg 19968 ∷ neg 32768 ∷ neg 32768 ∷ neg 32768 ∷ neg 32768 ∷ neg 32768 ∷ neg 32768 ∷ neg 32768 ∷ neg 32768 ∷ neg 32768 ∷ neg 32768 ∷ neg 32768 ∷ neg 32768 ∷ neg 20776 ∷ neg 20192 ∷ neg 12456 ∷ neg 9872 ∷ neg 4680 ∷ pos 32760 ∷ pos 32760 ∷ pos 32760 ∷ pos 32760 ∷ pos 32760 ∷ pos 32760 ∷ pos 32760 ∷ pos 32760 ∷ pos 32760 ∷ pos 32760 ∷ pos 32760 ∷ pos 32760 ∷ pos 32760 ∷ pos 32760 ∷ pos 32760 ∷ pos 32760 ∷ pos 32760 ∷ pos 32760 ∷ pos 32760 ∷ pos 32760 ∷ pos 32760 ∷ pos 32760 ∷ pos 19096 ∷ neg 10656 ∷ neg 32768 ∷ neg 32768 ∷ neg 32768 ∷ neg 32768 ∷ neg 32768 ∷ neg 32768 ∷ neg 32768 ∷ neg 32768 ∷ neg 32768 ∷ neg 32768 ∷ neg 32768 ∷ neg 32768 ∷ neg 32768 ∷ neg 32768 ∷ neg 32768 ∷ neg 32768 ∷ neg 32768 ∷ neg 32768 ∷ neg 32768 ∷ neg 32768 ∷ neg 32768 ∷ neg 32768 ∷ neg 32768 ∷ neg 32768 ∷ neg 32768 ∷ neg 32768 ∷ neg 32768 ∷ neg 32768 ∷ neg 32768 ∷ neg 32768 ∷ neg 32768 ∷ neg 10128 ∷ pos 4712 ∷ pos 32760 ∷ pos 32760 ∷ pos 32760 ∷ pos 32760 ∷ pos 32760 ∷ pos 32760 ∷ pos 32760 ∷ pos 32760 ∷ pos 32760 ∷ pos 32760 ∷ pos 32760 ∷ pos 11536 ∷ neg 2128 ∷ neg 32768 ∷ neg 32768 ∷ neg 32768 ∷ neg 32768 ∷ neg 32768 ∷ neg 32768 ∷ neg 32768 ∷ neg 32768 ∷ neg 32768 ∷ neg 32768 ∷ neg 32768 ∷ neg 32768 ∷ neg 32768 ∷ neg 32768 ∷ neg 32768 ∷ neg 32768 ∷ neg 32768 ∷ neg 32768 ∷ neg 32768 ∷ neg 32768 ∷ neg 32768 ∷ neg 32768 ∷ neg 32768 ∷ [] }
unfolding opened
d01_random_0 = refl

-- and further on
pub d01_random_40 : decode (record { drp = pos 310 ∷ pos 0 ∷ pos 5 ∷ neg 249 ∷ pos 8 ∷ pos 6 ∷ neg 482 ∷ pos 3 ∷ pos 6 ∷ pos 922 ∷ neg 3 ∷ pos 1 ∷ pos 1476 ∷ pos 43 ∷ neg 2 ∷ neg 889 ∷ neg 3 ∷ neg 2 ∷ neg 1245 ∷ neg 21 ∷ pos 7 ∷ pos 1213 ∷ neg 17 ∷ pos 7 ∷ pos 1477 ∷ pos 44 ∷ pos 0 ∷ pos 1156 ∷ pos 48 ∷ pos 3 ∷ pos 747 ∷ neg 20 ∷ neg 12 ∷ pos 835 ∷ pos 2 ∷ neg 1 ∷ neg 1068 ∷ neg 52 ∷ neg 6 ∷ pos 1434 ∷ neg 3981 ∷ neg 11 ∷ neg 385 ∷ pos 9349 ∷ pos 28 ∷ neg 1921 ∷ pos 23368 ∷ pos 22 ∷ neg 2688 ∷ pos 17121 ∷ neg 6 ∷ pos 384 ∷ neg 3765 ∷ neg 2 ∷ neg 378 ∷ pos 3757 ∷ neg 2 ∷ neg 387 ∷ pos 16924 ∷ pos 0 ∷ pos 383 ∷ neg 10451 ∷ neg 6 ∷ neg 1153 ∷ pos 16633 ∷ pos 31 ∷ pos 0 ∷ pos 23296 ∷ neg 25 ∷ pos 1 ∷ pos 23296 ∷ neg 48 ∷ pos 0 ∷ neg 23294 ∷ pos 92 ∷ pos 0 ∷ pos 9984 ∷ pos 148 ∷ pos 4 ∷ pos 0 ∷ pos 1854 ∷ pos 2 ∷ pos 2489 ∷ neg 2797 ∷ neg 38 ∷ neg 7494 ∷ neg 599 ∷ pos 201 ∷ pos 0 ∷ pos 563 ∷ neg 162 ∷ pos 5 ∷ pos 404 ∷ neg 313 ∷ pos 2 ∷ pos 404 ∷ pos 599 ∷ neg 2 ∷ pos 81 ∷ pos 959 ∷ pos 28 ∷ pos 239 ∷ neg 578 ∷ neg 2 ∷ neg 401 ∷ neg 809 ∷ neg 14 ∷ pos 85 ∷ pos 788 ∷ neg 11 ∷ pos 85 ∷ pos 960 ∷ pos 29 ∷ neg 240 ∷ pos 751 ∷ pos 31 ∷ neg 398 ∷ pos 486 ∷ neg 13 ∷ neg 88 ∷ []; nrp = pos 87; LARpp = pos 18022 ∷ pos 9012 ∷ neg 9012 ∷ neg 820 ∷ pos 3384 ∷ neg 4916 ∷ neg 4588 ∷ pos 4148 ∷ []; v = pos 58 ∷ pos 265 ∷ pos 580 ∷ neg 317 ∷ pos 637 ∷ pos 80 ∷ neg 152 ∷ pos 1116 ∷ []; msr = pos 815 }) (pos 61 ∷ pos 31 ∷ pos 7 ∷ pos 20 ∷ pos 2 ∷ pos 15 ∷ pos 7 ∷ pos 1 ∷ pos 115 ∷ pos 2 ∷ pos 0 ∷ pos 2 ∷ pos 0 ∷ pos 7 ∷ pos 2 ∷ pos 7 ∷ pos 1 ∷ pos 5 ∷ pos 7 ∷ pos 4 ∷ pos 7 ∷ pos 1 ∷ pos 5 ∷ pos 5 ∷ pos 1 ∷ pos 47 ∷ pos 0 ∷ pos 0 ∷ pos 35 ∷ pos 6 ∷ pos 2 ∷ pos 3 ∷ pos 4 ∷ pos 7 ∷ pos 6 ∷ pos 5 ∷ pos 7 ∷ pos 4 ∷ pos 0 ∷ pos 7 ∷ pos 6 ∷ pos 4 ∷ pos 122 ∷ pos 2 ∷ pos 2 ∷ pos 11 ∷ pos 0 ∷ pos 2 ∷ pos 6 ∷ pos 4 ∷ pos 5 ∷ pos 2 ∷ pos 0 ∷ pos 0 ∷ pos 6 ∷ pos 2 ∷ pos 3 ∷ pos 2 ∷ pos 2 ∷ pos 19 ∷ pos 1 ∷ pos 0 ∷ pos 18 ∷ pos 6 ∷ pos 4 ∷ pos 2 ∷ pos 6 ∷ pos 6 ∷ pos 3 ∷ pos 4 ∷ pos 6 ∷ pos 0 ∷ pos 3 ∷ pos 2 ∷ pos 5 ∷ pos 7 ∷ []) (replicate 160 (pos 0)) ≡ record { number = 0; state = record { drp = pos 1896 ∷ pos 75 ∷ pos 3 ∷ neg 1192 ∷ pos 49 ∷ neg 1 ∷ neg 393 ∷ neg 8 ∷ neg 31 ∷ pos 384 ∷ pos 9 ∷ pos 60 ∷ pos 2688 ∷ neg 4 ∷ pos 96 ∷ pos 1923 ∷ pos 8 ∷ neg 58 ∷ pos 1152 ∷ neg 6 ∷ neg 81 ∷ pos 2687 ∷ pos 4 ∷ pos 79 ∷ pos 383 ∷ pos 9 ∷ pos 96 ∷ neg 2685 ∷ pos 1 ∷ pos 75 ∷ pos 2691 ∷ pos 9 ∷ pos 49 ∷ pos 1919 ∷ neg 7 ∷ pos 54 ∷ pos 384 ∷ pos 4 ∷ neg 69 ∷ neg 3 ∷ pos 21 ∷ pos 606 ∷ neg 2018 ∷ neg 44 ∷ neg 162 ∷ pos 3806 ∷ pos 12 ∷ pos 1232 ∷ pos 289 ∷ pos 2 ∷ neg 775 ∷ pos 80 ∷ neg 1 ∷ neg 255 ∷ pos 139 ∷ neg 20 ∷ pos 250 ∷ neg 138 ∷ pos 39 ∷ pos 1747 ∷ neg 339 ∷ pos 62 ∷ pos 1250 ∷ neg 331 ∷ neg 38 ∷ pos 749 ∷ pos 236 ∷ neg 53 ∷ pos 1747 ∷ neg 141 ∷ pos 51 ∷ pos 249 ∷ neg 42 ∷ pos 62 ∷ neg 1745 ∷ neg 143 ∷ pos 49 ∷ pos 1749 ∷ neg 138 ∷ pos 32 ∷ pos 1112 ∷ neg 2 ∷ pos 19 ∷ pos 222 ∷ pos 1 ∷ neg 24 ∷ neg 265 ∷ pos 7 ∷ pos 212 ∷ neg 266 ∷ neg 15 ∷ neg 57 ∷ pos 1772 ∷ pos 4 ∷ pos 431 ∷ pos 13 ∷ pos 1 ∷ neg 271 ∷ pos 116 ∷ pos 0 ∷ neg 89 ∷ pos 489 ∷ neg 7 ∷ pos 88 ∷ neg 664 ∷ pos 14 ∷ pos 611 ∷ neg 207 ∷ pos 22 ∷ pos 438 ∷ neg 380 ∷ neg 13 ∷ pos 262 ∷ pos 347 ∷ neg 19 ∷ pos 611 ∷ pos 567 ∷ pos 18 ∷ pos 87 ∷ neg 15 ∷ []; nrp = pos 47; LARpp = pos 23756 ∷ neg 820 ∷ neg 10650 ∷ pos 7372 ∷ neg 7430 ∷ pos 11468 ∷ pos 7206 ∷ neg 1422 ∷ []; v = pos 4440 ∷ pos 896 ∷ pos 530 ∷ pos 593 ∷ pos 915 ∷ pos 739 ∷ neg 141 ∷ pos 12 ∷ []; msr = pos 4558 }; samples = pos 1184 ∷ pos 976 ∷ pos 840 ∷ pos 512 ∷ pos 2112 ∷ neg 88 ∷ pos 2272 ∷ pos 1528 ∷ pos 1536 ∷ pos 2696 ∷ neg 592 ∷ pos 2864 ∷ neg 1352 ∷ pos 816 ∷ neg 1744 ∷ neg 48 ∷ pos 200 ∷ neg 744 ∷ pos 1552 ∷ pos 832 ∷ pos 2504 ∷ pos 1016 ∷ pos 4064 ∷ pos 904 ∷ pos 4032 ∷ pos 1360 ∷ pos 3192 ∷ pos 488 ∷ pos 2672 ∷ pos 336 ∷ pos 1608 ∷ neg 1576 ∷ pos 656 ∷ neg 1680 ∷ pos 1976 ∷ neg 6792 ∷ pos 1408 ∷ neg 7744 ∷ pos 14712 ∷ neg 7032 ∷ pos 22352 ∷ neg 5472 ∷ pos 32600 ∷ neg 8816 ∷ pos 30096 ∷ neg 15712 ∷ pos 27656 ∷ neg 21832 ∷ pos 18352 ∷ neg 26608 ∷ pos 14264 ∷ neg 23792 ∷ pos 14824 ∷ neg 16712 ∷ pos 16840 ∷ neg 3048 ∷ pos 19408 ∷ pos 6136 ∷ pos 17304 ∷ pos 13560 ∷ pos 11096 ∷ pos 18752 ∷ pos 1648 ∷ pos 19552 ∷ neg 9104 ∷ pos 19296 ∷ neg 18184 ∷ pos 12792 ∷ neg 26608 ∷ pos 11168 ∷ neg 21016 ∷ pos 12472 ∷ neg 16160 ∷ pos 17728 ∷ neg 2704 ∷ pos 21064 ∷ pos 2984 ∷ pos 18288 ∷ pos 8792 ∷ pos 12032 ∷ pos 6336 ∷ pos 1096 ∷ pos 1600 ∷ neg 9016 ∷ neg 3048 ∷ neg 8760 ∷ pos 320 ∷ neg 3632 ∷ pos 4312 ∷ pos 4184 ∷ pos 8552 ∷ pos 9352 ∷ pos 7856 ∷ pos 10264 ∷ pos 4672 ∷ pos 7992 ∷ neg 1368 ∷ pos 3528 ∷ neg 6472 ∷ pos 4096 ∷ neg 8672 ∷ pos 4128 ∷ neg 6768 ∷ pos 8144 ∷ neg 3560 ∷ pos 10552 ∷ pos 16 ∷ pos 12568 ∷ pos 5120 ∷ pos 11376 ∷ pos 5832 ∷ pos 7512 ∷ pos 6096 ∷ pos 2040 ∷ neg 48 ∷ neg 5928 ∷ neg 2368 ∷ neg 5328 ∷ neg 2912 ∷ neg 5928 ∷ pos 1304 ∷ pos 872 ∷ pos 6000 ∷ pos 2896 ∷ pos 8248 ∷ pos 6448 ∷ pos 8232 ∷ pos 3488 ∷ pos 4120 ∷ pos 1176 ∷ pos 680 ∷ neg 3288 ∷ neg 360 ∷ neg 2880 ∷ pos 1944 ∷ neg 2856 ∷ pos 3928 ∷ neg 1056 ∷ pos 7080 ∷ neg 696 ∷ pos 7016 ∷ neg 80 ∷ pos 7368 ∷ neg 712 ∷ pos 3208 ∷ neg 2416 ∷ pos 2200 ∷ neg 2456 ∷ neg 864 ∷ neg 2256 ∷ neg 1144 ∷ pos 144 ∷ neg 1712 ∷ pos 2448 ∷ neg 840 ∷ pos 6568 ∷ pos 488 ∷ pos 8328 ∷ pos 272 ∷ pos 9112 ∷ [] }
unfolding opened
d01_random_40 = refl

-- stray bits beside the valid ones
pub d02_stray_0 : decode (record { drp = pos 0 ∷ pos 0 ∷ pos 0 ∷ pos 0 ∷ pos 0 ∷ pos 0 ∷ pos 0 ∷ pos 0 ∷ pos 0 ∷ pos 0 ∷ pos 0 ∷ pos 0 ∷ pos 0 ∷ pos 0 ∷ pos 0 ∷ pos 0 ∷ pos 0 ∷ pos 0 ∷ pos 0 ∷ pos 0 ∷ pos 0 ∷ pos 0 ∷ pos 0 ∷ pos 0 ∷ pos 0 ∷ pos 0 ∷ pos 0 ∷ pos 0 ∷ pos 0 ∷ pos 0 ∷ pos 0 ∷ pos 0 ∷ pos 0 ∷ pos 0 ∷ pos 0 ∷ pos 0 ∷ pos 0 ∷ pos 0 ∷ pos 0 ∷ pos 0 ∷ pos 0 ∷ pos 0 ∷ pos 0 ∷ pos 0 ∷ pos 0 ∷ pos 0 ∷ pos 0 ∷ pos 0 ∷ pos 0 ∷ pos 0 ∷ pos 0 ∷ pos 0 ∷ pos 0 ∷ pos 0 ∷ pos 0 ∷ pos 0 ∷ pos 0 ∷ pos 0 ∷ pos 0 ∷ pos 0 ∷ pos 0 ∷ pos 0 ∷ pos 0 ∷ pos 0 ∷ pos 0 ∷ pos 0 ∷ pos 0 ∷ pos 0 ∷ pos 0 ∷ pos 0 ∷ pos 0 ∷ pos 0 ∷ pos 0 ∷ pos 0 ∷ pos 0 ∷ pos 0 ∷ pos 0 ∷ pos 0 ∷ pos 0 ∷ pos 0 ∷ pos 0 ∷ pos 0 ∷ pos 0 ∷ pos 0 ∷ pos 0 ∷ pos 0 ∷ pos 0 ∷ pos 0 ∷ pos 0 ∷ pos 0 ∷ pos 0 ∷ pos 0 ∷ pos 0 ∷ pos 0 ∷ pos 0 ∷ pos 0 ∷ pos 0 ∷ pos 0 ∷ pos 0 ∷ pos 0 ∷ pos 0 ∷ pos 0 ∷ pos 0 ∷ pos 0 ∷ pos 0 ∷ pos 0 ∷ pos 0 ∷ pos 0 ∷ pos 0 ∷ pos 0 ∷ pos 0 ∷ pos 0 ∷ pos 0 ∷ pos 0 ∷ pos 0 ∷ pos 0 ∷ pos 0 ∷ pos 0 ∷ pos 0 ∷ pos 0 ∷ []; nrp = pos 40; LARpp = pos 0 ∷ pos 0 ∷ pos 0 ∷ pos 0 ∷ pos 0 ∷ pos 0 ∷ pos 0 ∷ pos 0 ∷ []; v = pos 0 ∷ pos 0 ∷ pos 0 ∷ pos 0 ∷ pos 0 ∷ pos 0 ∷ pos 0 ∷ pos 0 ∷ []; msr = pos 0 }) (neg 569 ∷ pos 3470 ∷ pos 4090 ∷ pos 12880 ∷ pos 23524 ∷ neg 31909 ∷ pos 16454 ∷ neg 29694 ∷ pos 2382 ∷ pos 16571 ∷ neg 23729 ∷ neg 21130 ∷ neg 31394 ∷ pos 1085 ∷ pos 496 ∷ pos 7890 ∷ pos 12819 ∷ pos 2800 ∷ pos 22202 ∷ neg 28689 ∷ neg 4434 ∷ neg 13977 ∷ pos 25754 ∷ neg 14152 ∷ neg 13469 ∷ pos 26869 ∷ pos 32349 ∷ neg 17700 ∷ pos 2294 ∷ pos 6037 ∷ neg 26873 ∷ pos 12328 ∷ pos 7964 ∷ neg 20630 ∷ pos 19055 ∷ neg 10858 ∷ pos 15467 ∷ pos 21274 ∷ pos 11943 ∷ pos 20169 ∷ pos 29811 ∷ neg 21764 ∷ neg 20724 ∷ neg 32026 ∷ pos 15860 ∷ neg 28801 ∷ pos 3631 ∷ pos 21833 ∷ neg 16582 ∷ neg 192 ∷ pos 18393 ∷ neg 5126 ∷ neg 6394 ∷ pos 7282 ∷ pos 32296 ∷ pos 20155 ∷ neg 12532 ∷ neg 27412 ∷ neg 29209 ∷ neg 26834 ∷ neg 29217 ∷ neg 20947 ∷ pos 9319 ∷ neg 24040 ∷ pos 143 ∷ neg 25605 ∷ pos 24473 ∷ pos 31624 ∷ pos 7 ∷ pos 31881 ∷ pos 19065 ∷ neg 3271 ∷ neg 27453 ∷ pos 20945 ∷ pos 31983 ∷ pos 29072 ∷ []) (replicate 160 (pos 0)) ≡ record { number = 0; state = record { drp = pos 5760 ∷ pos 0 ∷ pos 0 ∷ pos 13440 ∷ pos 0 ∷ pos 0 ∷ neg 13439 ∷ pos 0 ∷ pos 0 ∷ pos 1920 ∷ pos 0 ∷ pos 0 ∷ neg 5760 ∷ pos 0 ∷ pos 0 ∷ pos 13440 ∷ pos 0 ∷ pos 0 ∷ pos 9600 ∷ pos 0 ∷ pos 0 ∷ neg 1920 ∷ pos 0 ∷ pos 0 ∷ neg 5760 ∷ pos 0 ∷ pos 0 ∷ pos 13440 ∷ pos 0 ∷ pos 0 ∷ neg 9599 ∷ pos 0 ∷ pos 0 ∷ neg 1920 ∷ pos 0 ∷ pos 0 ∷ pos 1920 ∷ pos 0 ∷ pos 0 ∷ pos 0 ∷ pos 28671 ∷ pos 0 ∷ pos 0 ∷ neg 20479 ∷ pos 0 ∷ pos 0 ∷ neg 12288 ∷ pos 0 ∷ pos 0 ∷ neg 28671 ∷ pos 0 ∷ pos 0 ∷ neg 20479 ∷ pos 0 ∷ pos 0 ∷ neg 12288 ∷ pos 0 ∷ pos 0 ∷ pos 20479 ∷ pos 0 ∷ pos 0 ∷ neg 12288 ∷ pos 0 ∷ pos 0 ∷ neg 28671 ∷ pos 0 ∷ pos 0 ∷ neg 4096 ∷ pos 0 ∷ pos 0 ∷ pos 4096 ∷ pos 0 ∷ pos 0 ∷ pos 4096 ∷ pos 0 ∷ pos 0 ∷ pos 28671 ∷ pos 0 ∷ pos 0 ∷ pos 0 ∷ pos 0 ∷ neg 3584 ∷ pos 1920 ∷ pos 0 ∷ pos 3584 ∷ pos 0 ∷ pos 28670 ∷ neg 512 ∷ pos 0 ∷ neg 20478 ∷ neg 2560 ∷ pos 0 ∷ neg 12288 ∷ neg 3584 ∷ pos 0 ∷ neg 28670 ∷ pos 3584 ∷ pos 0 ∷ neg 20478 ∷ neg 2560 ∷ pos 0 ∷ neg 12288 ∷ neg 2560 ∷ pos 0 ∷ pos 20478 ∷ neg 2560 ∷ pos 0 ∷ neg 12288 ∷ neg 512 ∷ pos 0 ∷ neg 28670 ∷ neg 2560 ∷ pos 0 ∷ neg 4096 ∷ pos 3584 ∷ pos 0 ∷ pos 4096 ∷ neg 3584 ∷ pos 0 ∷ pos 4096 ∷ []; nrp = pos 46; LARpp = neg 20480 ∷ neg 14746 ∷ pos 4916 ∷ pos 4096 ∷ neg 5026 ∷ pos 7100 ∷ pos 5242 ∷ pos 436 ∷ []; v = neg 30206 ∷ neg 3978 ∷ neg 2344 ∷ pos 1393 ∷ pos 5387 ∷ neg 2925 ∷ pos 447 ∷ pos 2913 ∷ []; msr = neg 32768 }; samples = pos 0 ∷ pos 0 ∷ pos 0 ∷ pos 19200 ∷ pos 21472 ∷ pos 24768 ∷ pos 32760 ∷ pos 32552 ∷ pos 32760 ∷ pos 1888 ∷ neg 6096 ∷ neg 14520 ∷ neg 27512 ∷ neg 32768 ∷ neg 32768 ∷ neg 32768 ∷ neg 32768 ∷ neg 32768 ∷ neg 32768 ∷ neg 32768 ∷ neg 32768 ∷ neg 32768 ∷ neg 32768 ∷ neg 32768 ∷ neg 32768 ∷ neg 28208 ∷ neg 7536 ∷ pos 21704 ∷ pos 32760 ∷ pos 32760 ∷ pos 32760 ∷ pos 32760 ∷ pos 32760 ∷ pos 32760 ∷ pos 32760 ∷ pos 32760 ∷ pos 32760 ∷ pos 32760 ∷ pos 32760 ∷ pos 32760 ∷ pos 32760 ∷ pos 32760 ∷ pos 32760 ∷ pos 32760 ∷ pos 32760 ∷ pos 32760 ∷ pos 12936 ∷ pos 8512 ∷ neg 28160 ∷ neg 19968 ∷ neg 32768 ∷ neg 32768 ∷ neg 32768 ∷ neg 32768 ∷ neg 32768 ∷ neg 32768 ∷ neg 32768 ∷ neg 32768 ∷ neg 32768 ∷ neg 32768 ∷ neg 32768 ∷ neg 32768 ∷ neg 20776 ∷ neg 20192 ∷ neg 12456 ∷ neg 9872 ∷ neg 4680 ∷ pos 32760 ∷ pos 32760 ∷ pos 32760 ∷ pos 32760 ∷ pos 32760 ∷ pos 32760 ∷ pos 32760 ∷ pos 32760 ∷ pos 32760 ∷ pos 32760 ∷ pos 32760 ∷ pos 32760 ∷ pos 32760 ∷ pos 32760 ∷ pos 32760 ∷ pos 32760 ∷ pos 32760 ∷ pos 32760 ∷ pos 32760 ∷ pos 32760 ∷ pos 32760 ∷ pos 32760 ∷ pos 19096 ∷ neg 10656 ∷ neg 32768 ∷ neg 32768 ∷ neg 32768 ∷ neg 32768 ∷ neg 32768 ∷ neg 32768 ∷ neg 32768 ∷ neg 32768 ∷ neg 32768 ∷ neg 32768 ∷ neg 32768 ∷ neg 32768 ∷ neg 32768 ∷ neg 32768 ∷ neg 32768 ∷ neg 32768 ∷ neg 32768 ∷ neg 32768 ∷ neg 32768 ∷ neg 32768 ∷ neg 32768 ∷ neg 32768 ∷ neg 32768 ∷ neg 32768 ∷ neg 32768 ∷ neg 32768 ∷ neg 32768 ∷ neg 32768 ∷ neg 32768 ∷ neg 32768 ∷ neg 32768 ∷ neg 10128 ∷ pos 4712 ∷ pos 32760 ∷ pos 32760 ∷ pos 32760 ∷ pos 32760 ∷ pos 32760 ∷ pos 32760 ∷ pos 32760 ∷ pos 32760 ∷ pos 32760 ∷ pos 32760 ∷ pos 32760 ∷ pos 11536 ∷ neg 2128 ∷ neg 32768 ∷ neg 32768 ∷ neg 32768 ∷ neg 32768 ∷ neg 32768 ∷ neg 32768 ∷ neg 32768 ∷ neg 32768 ∷ neg 32768 ∷ neg 32768 ∷ neg 32768 ∷ neg 32768 ∷ neg 32768 ∷ neg 32768 ∷ neg 32768 ∷ neg 32768 ∷ neg 32768 ∷ neg 32768 ∷ neg 32768 ∷ neg 32768 ∷ neg 32768 ∷ neg 32768 ∷ neg 32768 ∷ [] }
unfolding opened
d02_stray_0 = refl

-- and further on
pub d02_stray_17 : decode (record { drp = neg 1449 ∷ pos 632 ∷ pos 85 ∷ neg 4713 ∷ neg 892 ∷ pos 107 ∷ neg 136 ∷ pos 975 ∷ neg 21 ∷ neg 1385 ∷ pos 3580 ∷ neg 666 ∷ pos 1428 ∷ pos 72 ∷ pos 16 ∷ pos 18718 ∷ neg 39 ∷ pos 100 ∷ pos 3529 ∷ pos 15 ∷ neg 6 ∷ pos 274 ∷ neg 23 ∷ neg 3 ∷ neg 16820 ∷ neg 12 ∷ pos 1 ∷ pos 16825 ∷ neg 6 ∷ neg 3 ∷ neg 11533 ∷ pos 13 ∷ pos 1 ∷ neg 12017 ∷ pos 45 ∷ pos 4 ∷ neg 6547 ∷ pos 7 ∷ neg 6 ∷ neg 17813 ∷ pos 85 ∷ neg 1 ∷ neg 2053 ∷ pos 40 ∷ pos 2 ∷ neg 2001 ∷ neg 123 ∷ pos 0 ∷ pos 2023 ∷ neg 214 ∷ pos 0 ∷ pos 5919 ∷ neg 163 ∷ pos 6975 ∷ neg 8 ∷ neg 159 ∷ neg 2313 ∷ neg 4 ∷ pos 158 ∷ pos 16360 ∷ pos 8 ∷ neg 223 ∷ pos 11636 ∷ pos 29 ∷ pos 99 ∷ pos 16232 ∷ pos 5 ∷ neg 164 ∷ neg 2365 ∷ neg 11 ∷ pos 223 ∷ neg 16363 ∷ pos 8 ∷ pos 98 ∷ neg 16311 ∷ neg 27 ∷ neg 32 ∷ pos 16332 ∷ pos 10 ∷ pos 0 ∷ neg 4 ∷ pos 0 ∷ pos 15873 ∷ neg 2 ∷ neg 1 ∷ pos 19258 ∷ pos 5 ∷ pos 0 ∷ pos 5778 ∷ pos 16 ∷ pos 1 ∷ pos 1037 ∷ pos 2 ∷ neg 2 ∷ pos 10404 ∷ pos 30 ∷ pos 0 ∷ neg 10703 ∷ pos 14 ∷ pos 1 ∷ neg 4028 ∷ neg 43 ∷ pos 0 ∷ pos 24003 ∷ neg 75 ∷ pos 0 ∷ neg 7912 ∷ neg 57 ∷ pos 2441 ∷ pos 9981 ∷ neg 56 ∷ neg 810 ∷ pos 23294 ∷ pos 55 ∷ pos 5726 ∷ neg 16636 ∷ neg 78 ∷ pos 4073 ∷ pos 16649 ∷ pos 35 ∷ []; nrp = pos 55; LARpp = pos 3276 ∷ neg 25394 ∷ neg 14746 ∷ pos 13926 ∷ neg 8630 ∷ pos 1638 ∷ neg 4588 ∷ pos 9718 ∷ []; v = pos 26637 ∷ pos 32767 ∷ neg 15776 ∷ neg 26076 ∷ pos 13376 ∷ pos 12366 ∷ neg 3755 ∷ neg 5567 ∷ []; msr = pos 32767 }) (neg 29920 ∷ neg 20134 ∷ neg 19556 ∷ pos 20266 ∷ pos 17229 ∷ pos 6860 ∷ neg 18429 ∷ neg 14866 ∷ neg 21194 ∷ pos 17001 ∷ pos 27836 ∷ neg 21792 ∷ neg 3913 ∷ pos 20820 ∷ neg 28779 ∷ pos 13515 ∷ neg 30460 ∷ neg 27560 ∷ neg 20748 ∷ pos 13337 ∷ pos 8133 ∷ neg 17808 ∷ neg 18142 ∷ neg 23241 ∷ neg 13739 ∷ pos 18375 ∷ neg 5576 ∷ pos 28355 ∷ pos 16708 ∷ neg 23417 ∷ pos 30434 ∷ neg 27740 ∷ pos 26854 ∷ neg 14744 ∷ pos 28544 ∷ pos 3754 ∷ neg 18725 ∷ pos 2081 ∷ pos 3195 ∷ neg 24385 ∷ neg 22042 ∷ neg 23255 ∷ pos 31031 ∷ pos 26296 ∷ neg 18073 ∷ neg 12671 ∷ pos 26920 ∷ neg 15780 ∷ pos 22323 ∷ pos 31187 ∷ neg 12509 ∷ neg 13673 ∷ pos 19425 ∷ neg 29765 ∷ pos 586 ∷ pos 23282 ∷ neg 1112 ∷ pos 21540 ∷ pos 25286 ∷ pos 13822 ∷ pos 11723 ∷ pos 28931 ∷ pos 23434 ∷ pos 22589 ∷ pos 4850 ∷ neg 23089 ∷ neg 6038 ∷ neg 5809 ∷ neg 21321 ∷ neg 30536 ∷ pos 32275 ∷ neg 29472 ∷ pos 4326 ∷ pos 17345 ∷ pos 13192 ∷ neg 10090 ∷ []) (replicate 160 (pos 0)) ≡ record { number = 0; state = record { drp = pos 2 ∷ pos 0 ∷ pos 104 ∷ pos 140 ∷ pos 0 ∷ pos 1040 ∷ neg 57 ∷ pos 0 ∷ neg 1070 ∷ pos 21 ∷ pos 0 ∷ neg 403 ∷ pos 96 ∷ pos 0 ∷ pos 2400 ∷ neg 148 ∷ pos 0 ∷ neg 791 ∷ neg 146 ∷ pos 244 ∷ pos 998 ∷ neg 66 ∷ neg 81 ∷ pos 2330 ∷ neg 14 ∷ pos 573 ∷ neg 1664 ∷ neg 108 ∷ pos 407 ∷ pos 1665 ∷ neg 16 ∷ pos 202 ∷ neg 6 ∷ pos 57 ∷ pos 28 ∷ pos 8 ∷ neg 473 ∷ pos 87 ∷ pos 3 ∷ neg 671 ∷ pos 36 ∷ pos 0 ∷ neg 202 ∷ pos 308 ∷ pos 1 ∷ neg 86 ∷ neg 367 ∷ pos 1 ∷ pos 202 ∷ neg 149 ∷ neg 2 ∷ pos 86 ∷ pos 832 ∷ neg 3 ∷ pos 0 ∷ neg 8 ∷ pos 0 ∷ pos 10 ∷ pos 70 ∷ pos 0 ∷ pos 104 ∷ neg 46 ∷ pos 0 ∷ neg 107 ∷ neg 6 ∷ pos 0 ∷ neg 40 ∷ neg 14 ∷ pos 0 ∷ pos 240 ∷ neg 39 ∷ pos 0 ∷ neg 79 ∷ neg 71 ∷ pos 24 ∷ pos 100 ∷ pos 1 ∷ neg 8 ∷ pos 233 ∷ pos 39 ∷ pos 573 ∷ neg 1664 ∷ neg 108 ∷ pos 539 ∷ pos 1665 ∷ neg 16 ∷ pos 70 ∷ neg 6 ∷ pos 57 ∷ pos 336 ∷ pos 8 ∷ neg 473 ∷ neg 45 ∷ pos 3 ∷ neg 671 ∷ pos 344 ∷ pos 0 ∷ neg 202 ∷ pos 616 ∷ pos 1 ∷ neg 86 ∷ neg 675 ∷ pos 1 ∷ pos 202 ∷ neg 193 ∷ neg 2 ∷ pos 86 ∷ pos 524 ∷ neg 3 ∷ pos 0 ∷ pos 212 ∷ pos 0 ∷ pos 10 ∷ neg 150 ∷ pos 0 ∷ pos 104 ∷ neg 354 ∷ pos 0 ∷ neg 107 ∷ pos 214 ∷ []; nrp = pos 55; LARpp = pos 0 ∷ neg 4916 ∷ pos 6554 ∷ neg 820 ∷ pos 5786 ∷ pos 8192 ∷ neg 656 ∷ pos 7862 ∷ []; v = pos 930 ∷ pos 388 ∷ neg 177 ∷ neg 212 ∷ neg 340 ∷ pos 107 ∷ neg 447 ∷ neg 224 ∷ []; msr = pos 485 }; samples = pos 32760 ∷ pos 32760 ∷ pos 32760 ∷ pos 32760 ∷ pos 32760 ∷ pos 32760 ∷ pos 32760 ∷ pos 32760 ∷ pos 32760 ∷ pos 32760 ∷ pos 32760 ∷ pos 32760 ∷ pos 32760 ∷ pos 32760 ∷ pos 32760 ∷ pos 32760 ∷ pos 32760 ∷ pos 32760 ∷ pos 32760 ∷ pos 32760 ∷ pos 32760 ∷ pos 32760 ∷ pos 32760 ∷ pos 27856 ∷ pos 14288 ∷ pos 9552 ∷ neg 5312 ∷ neg 20240 ∷ neg 19208 ∷ neg 23640 ∷ neg 23448 ∷ neg 29576 ∷ neg 19720 ∷ neg 16096 ∷ neg 6880 ∷ pos 1512 ∷ pos 9496 ∷ pos 31008 ∷ pos 31736 ∷ pos 32760 ∷ pos 30768 ∷ pos 29704 ∷ pos 11088 ∷ pos 7744 ∷ neg 7208 ∷ neg 6488 ∷ neg 9736 ∷ neg 2032 ∷ pos 2208 ∷ pos 9776 ∷ pos 16040 ∷ pos 14752 ∷ pos 14104 ∷ pos 5160 ∷ pos 7280 ∷ neg 4216 ∷ neg 4496 ∷ neg 13304 ∷ neg 5488 ∷ neg 5192 ∷ pos 5896 ∷ pos 7072 ∷ pos 10848 ∷ pos 13432 ∷ pos 11008 ∷ pos 7864 ∷ neg 5768 ∷ neg 6464 ∷ neg 12392 ∷ neg 2472 ∷ neg 5432 ∷ pos 4016 ∷ pos 2912 ∷ pos 10864 ∷ pos 8008 ∷ pos 8136 ∷ pos 1512 ∷ neg 2840 ∷ neg 5496 ∷ neg 9216 ∷ neg 6384 ∷ neg 6408 ∷ pos 832 ∷ pos 1696 ∷ pos 8192 ∷ pos 5792 ∷ pos 6280 ∷ pos 1096 ∷ pos 16 ∷ neg 4368 ∷ neg 5952 ∷ neg 5824 ∷ neg 2544 ∷ pos 824 ∷ pos 2280 ∷ pos 5080 ∷ pos 4760 ∷ pos 4952 ∷ pos 1480 ∷ pos 256 ∷ neg 3168 ∷ neg 3768 ∷ neg 4520 ∷ neg 2768 ∷ neg 1160 ∷ pos 1048 ∷ pos 2968 ∷ pos 3488 ∷ pos 3576 ∷ pos 2248 ∷ pos 960 ∷ neg 1608 ∷ neg 2696 ∷ neg 3616 ∷ neg 2616 ∷ neg 1480 ∷ pos 440 ∷ pos 1712 ∷ pos 3128 ∷ pos 3320 ∷ pos 3624 ∷ neg 1376 ∷ neg 3000 ∷ neg 3328 ∷ pos 1680 ∷ pos 152 ∷ pos 1208 ∷ pos 608 ∷ pos 3184 ∷ pos 2560 ∷ pos 2336 ∷ neg 128 ∷ neg 1848 ∷ neg 2184 ∷ neg 3360 ∷ neg 1456 ∷ neg 1560 ∷ pos 752 ∷ pos 1496 ∷ pos 3760 ∷ pos 2416 ∷ pos 488 ∷ neg 984 ∷ neg 1208 ∷ neg 2016 ∷ neg 2896 ∷ neg 1656 ∷ pos 296 ∷ pos 1752 ∷ pos 1992 ∷ pos 2928 ∷ pos 2288 ∷ pos 1280 ∷ neg 656 ∷ neg 1280 ∷ neg 2072 ∷ neg 2688 ∷ neg 2112 ∷ neg 1040 ∷ pos 968 ∷ [] }
unfolding opened
d02_stray_17 = refl

-- lags outside 40 to 120, from home
pub d04_badlags_0 : decode (record { drp = pos 0 ∷ pos 0 ∷ pos 0 ∷ pos 0 ∷ pos 0 ∷ pos 0 ∷ pos 0 ∷ pos 0 ∷ pos 0 ∷ pos 0 ∷ pos 0 ∷ pos 0 ∷ pos 0 ∷ pos 0 ∷ pos 0 ∷ pos 0 ∷ pos 0 ∷ pos 0 ∷ pos 0 ∷ pos 0 ∷ pos 0 ∷ pos 0 ∷ pos 0 ∷ pos 0 ∷ pos 0 ∷ pos 0 ∷ pos 0 ∷ pos 0 ∷ pos 0 ∷ pos 0 ∷ pos 0 ∷ pos 0 ∷ pos 0 ∷ pos 0 ∷ pos 0 ∷ pos 0 ∷ pos 0 ∷ pos 0 ∷ pos 0 ∷ pos 0 ∷ pos 0 ∷ pos 0 ∷ pos 0 ∷ pos 0 ∷ pos 0 ∷ pos 0 ∷ pos 0 ∷ pos 0 ∷ pos 0 ∷ pos 0 ∷ pos 0 ∷ pos 0 ∷ pos 0 ∷ pos 0 ∷ pos 0 ∷ pos 0 ∷ pos 0 ∷ pos 0 ∷ pos 0 ∷ pos 0 ∷ pos 0 ∷ pos 0 ∷ pos 0 ∷ pos 0 ∷ pos 0 ∷ pos 0 ∷ pos 0 ∷ pos 0 ∷ pos 0 ∷ pos 0 ∷ pos 0 ∷ pos 0 ∷ pos 0 ∷ pos 0 ∷ pos 0 ∷ pos 0 ∷ pos 0 ∷ pos 0 ∷ pos 0 ∷ pos 0 ∷ pos 0 ∷ pos 0 ∷ pos 0 ∷ pos 0 ∷ pos 0 ∷ pos 0 ∷ pos 0 ∷ pos 0 ∷ pos 0 ∷ pos 0 ∷ pos 0 ∷ pos 0 ∷ pos 0 ∷ pos 0 ∷ pos 0 ∷ pos 0 ∷ pos 0 ∷ pos 0 ∷ pos 0 ∷ pos 0 ∷ pos 0 ∷ pos 0 ∷ pos 0 ∷ pos 0 ∷ pos 0 ∷ pos 0 ∷ pos 0 ∷ pos 0 ∷ pos 0 ∷ pos 0 ∷ pos 0 ∷ pos 0 ∷ pos 0 ∷ pos 0 ∷ pos 0 ∷ pos 0 ∷ pos 0 ∷ pos 0 ∷ pos 0 ∷ pos 0 ∷ []; nrp = pos 40; LARpp = pos 0 ∷ pos 0 ∷ pos 0 ∷ pos 0 ∷ pos 0 ∷ pos 0 ∷ pos 0 ∷ pos 0 ∷ []; v = pos 0 ∷ pos 0 ∷ pos 0 ∷ pos 0 ∷ pos 0 ∷ pos 0 ∷ pos 0 ∷ pos 0 ∷ []; msr = pos 0 }) (pos 50 ∷ pos 10 ∷ pos 10 ∷ pos 16 ∷ pos 3 ∷ pos 4 ∷ pos 5 ∷ pos 1 ∷ pos 61 ∷ pos 3 ∷ pos 1 ∷ pos 26 ∷ pos 2 ∷ pos 0 ∷ pos 4 ∷ pos 3 ∷ pos 7 ∷ pos 4 ∷ pos 0 ∷ pos 7 ∷ pos 7 ∷ pos 3 ∷ pos 3 ∷ pos 0 ∷ pos 5 ∷ pos 0 ∷ pos 3 ∷ pos 0 ∷ pos 31 ∷ pos 4 ∷ pos 4 ∷ pos 6 ∷ pos 6 ∷ pos 6 ∷ pos 2 ∷ pos 0 ∷ pos 4 ∷ pos 0 ∷ pos 5 ∷ pos 4 ∷ pos 1 ∷ pos 6 ∷ pos 42 ∷ pos 3 ∷ pos 1 ∷ pos 30 ∷ pos 6 ∷ pos 7 ∷ pos 2 ∷ pos 0 ∷ pos 7 ∷ pos 2 ∷ pos 1 ∷ pos 7 ∷ pos 2 ∷ pos 6 ∷ pos 1 ∷ pos 3 ∷ pos 1 ∷ pos 0 ∷ pos 3 ∷ pos 2 ∷ pos 49 ∷ pos 6 ∷ pos 3 ∷ pos 5 ∷ pos 6 ∷ pos 1 ∷ pos 5 ∷ pos 4 ∷ pos 5 ∷ pos 2 ∷ pos 4 ∷ pos 4 ∷ pos 0 ∷ pos 0 ∷ []) (replicate 160 (pos 0)) ≡ record { number = 0; state = record { drp = pos 256 ∷ pos 0 ∷ pos 0 ∷ pos 256 ∷ pos 0 ∷ pos 0 ∷ pos 1280 ∷ pos 0 ∷ pos 0 ∷ pos 1280 ∷ pos 0 ∷ pos 0 ∷ pos 1280 ∷ pos 0 ∷ pos 0 ∷ neg 768 ∷ pos 0 ∷ pos 0 ∷ neg 1792 ∷ pos 0 ∷ pos 0 ∷ pos 256 ∷ neg 528 ∷ pos 0 ∷ neg 1792 ∷ neg 1232 ∷ pos 0 ∷ pos 768 ∷ pos 176 ∷ pos 0 ∷ pos 256 ∷ neg 176 ∷ pos 0 ∷ neg 1280 ∷ pos 1232 ∷ pos 0 ∷ pos 1280 ∷ pos 176 ∷ pos 0 ∷ pos 0 ∷ pos 0 ∷ pos 1200 ∷ pos 256 ∷ pos 0 ∷ pos 1680 ∷ pos 256 ∷ pos 0 ∷ neg 720 ∷ pos 1280 ∷ pos 0 ∷ neg 1680 ∷ pos 1280 ∷ pos 0 ∷ pos 1680 ∷ pos 1280 ∷ pos 0 ∷ neg 720 ∷ neg 768 ∷ pos 0 ∷ neg 1200 ∷ neg 1792 ∷ pos 0 ∷ pos 1680 ∷ pos 256 ∷ neg 528 ∷ neg 720 ∷ neg 1792 ∷ neg 1232 ∷ pos 1200 ∷ pos 768 ∷ pos 176 ∷ neg 1200 ∷ pos 256 ∷ neg 176 ∷ neg 240 ∷ neg 1280 ∷ pos 1232 ∷ neg 1200 ∷ pos 1280 ∷ pos 176 ∷ pos 0 ∷ pos 0 ∷ pos 6400 ∷ pos 1200 ∷ pos 256 ∷ neg 1280 ∷ pos 1680 ∷ pos 256 ∷ pos 3840 ∷ neg 720 ∷ pos 1280 ∷ pos 6400 ∷ neg 1680 ∷ pos 1280 ∷ neg 6399 ∷ pos 1680 ∷ pos 1280 ∷ pos 3840 ∷ neg 720 ∷ neg 768 ∷ pos 1280 ∷ neg 1200 ∷ neg 1792 ∷ pos 3840 ∷ pos 1680 ∷ pos 256 ∷ neg 4368 ∷ neg 720 ∷ neg 1792 ∷ pos 48 ∷ pos 1200 ∷ pos 768 ∷ pos 1456 ∷ neg 1200 ∷ pos 256 ∷ neg 9135 ∷ neg 240 ∷ neg 1280 ∷ neg 7727 ∷ neg 1200 ∷ []; nrp = pos 42; LARpp = pos 14746 ∷ neg 18022 ∷ neg 8192 ∷ pos 4096 ∷ neg 6228 ∷ neg 546 ∷ pos 3276 ∷ neg 1422 ∷ []; v = neg 7226 ∷ neg 8762 ∷ pos 2801 ∷ pos 2015 ∷ pos 4616 ∷ neg 2326 ∷ pos 10136 ∷ pos 3135 ∷ []; msr = neg 5798 }; samples = pos 0 ∷ neg 1056 ∷ neg 720 ∷ neg 976 ∷ neg 3264 ∷ neg 2416 ∷ neg 3048 ∷ neg 2120 ∷ neg 2080 ∷ neg 1968 ∷ neg 1928 ∷ neg 1720 ∷ neg 1552 ∷ pos 1136 ∷ pos 128 ∷ pos 1968 ∷ pos 1104 ∷ pos 2120 ∷ pos 1896 ∷ neg 552 ∷ pos 592 ∷ neg 1352 ∷ pos 2512 ∷ pos 216 ∷ pos 2280 ∷ pos 3296 ∷ pos 3152 ∷ pos 5400 ∷ pos 2856 ∷ pos 5728 ∷ pos 3008 ∷ pos 5312 ∷ pos 3088 ∷ pos 4464 ∷ pos 744 ∷ pos 2400 ∷ neg 504 ∷ pos 2600 ∷ neg 464 ∷ pos 2088 ∷ neg 592 ∷ pos 1760 ∷ neg 248 ∷ pos 1920 ∷ pos 88 ∷ pos 1904 ∷ pos 2808 ∷ pos 3328 ∷ pos 4736 ∷ pos 5936 ∷ pos 7120 ∷ pos 8120 ∷ pos 10592 ∷ pos 10656 ∷ pos 12976 ∷ pos 10120 ∷ pos 13320 ∷ pos 9880 ∷ pos 10472 ∷ pos 7752 ∷ pos 7792 ∷ pos 7800 ∷ pos 5464 ∷ pos 6800 ∷ neg 400 ∷ pos 1808 ∷ neg 5264 ∷ pos 920 ∷ neg 6232 ∷ neg 200 ∷ neg 7296 ∷ neg 1560 ∷ neg 7272 ∷ neg 4976 ∷ neg 6072 ∷ neg 6280 ∷ neg 1648 ∷ neg 5792 ∷ pos 984 ∷ neg 6032 ∷ pos 2512 ∷ neg 2896 ∷ pos 5248 ∷ neg 256 ∷ pos 9064 ∷ pos 3848 ∷ pos 12160 ∷ pos 4600 ∷ pos 15136 ∷ pos 6792 ∷ pos 14400 ∷ pos 8384 ∷ pos 14184 ∷ pos 14192 ∷ pos 17968 ∷ pos 18928 ∷ pos 17496 ∷ pos 18592 ∷ pos 16728 ∷ pos 16736 ∷ pos 11864 ∷ pos 12464 ∷ pos 12032 ∷ pos 13128 ∷ pos 11664 ∷ pos 9432 ∷ pos 5880 ∷ pos 3320 ∷ pos 4248 ∷ pos 3104 ∷ pos 4512 ∷ neg 768 ∷ pos 2568 ∷ neg 3080 ∷ pos 2088 ∷ neg 7128 ∷ pos 1824 ∷ neg 10976 ∷ pos 3792 ∷ neg 11728 ∷ pos 5136 ∷ neg 12464 ∷ pos 17920 ∷ neg 2408 ∷ pos 28216 ∷ neg 1520 ∷ pos 32760 ∷ pos 3792 ∷ pos 32760 ∷ pos 10136 ∷ pos 32760 ∷ pos 26568 ∷ pos 32760 ∷ pos 32760 ∷ pos 32760 ∷ pos 32760 ∷ pos 32760 ∷ pos 32760 ∷ pos 32760 ∷ pos 32760 ∷ pos 32760 ∷ pos 32760 ∷ pos 32760 ∷ pos 32760 ∷ pos 32760 ∷ pos 32760 ∷ pos 29840 ∷ pos 32760 ∷ pos 24000 ∷ pos 32760 ∷ pos 24504 ∷ pos 32760 ∷ pos 27584 ∷ pos 32760 ∷ pos 29248 ∷ pos 30144 ∷ pos 20560 ∷ pos 11000 ∷ pos 3320 ∷ neg 11600 ∷ [] }
unfolding opened
d04_badlags_0 = refl

-- and with a lag remembered from the frame before
pub d04_badlags_1 : decode (record { drp = pos 256 ∷ pos 0 ∷ pos 0 ∷ pos 256 ∷ pos 0 ∷ pos 0 ∷ pos 1280 ∷ pos 0 ∷ pos 0 ∷ pos 1280 ∷ pos 0 ∷ pos 0 ∷ pos 1280 ∷ pos 0 ∷ pos 0 ∷ neg 768 ∷ pos 0 ∷ pos 0 ∷ neg 1792 ∷ pos 0 ∷ pos 0 ∷ pos 256 ∷ neg 528 ∷ pos 0 ∷ neg 1792 ∷ neg 1232 ∷ pos 0 ∷ pos 768 ∷ pos 176 ∷ pos 0 ∷ pos 256 ∷ neg 176 ∷ pos 0 ∷ neg 1280 ∷ pos 1232 ∷ pos 0 ∷ pos 1280 ∷ pos 176 ∷ pos 0 ∷ pos 0 ∷ pos 0 ∷ pos 1200 ∷ pos 256 ∷ pos 0 ∷ pos 1680 ∷ pos 256 ∷ pos 0 ∷ neg 720 ∷ pos 1280 ∷ pos 0 ∷ neg 1680 ∷ pos 1280 ∷ pos 0 ∷ pos 1680 ∷ pos 1280 ∷ pos 0 ∷ neg 720 ∷ neg 768 ∷ pos 0 ∷ neg 1200 ∷ neg 1792 ∷ pos 0 ∷ pos 1680 ∷ pos 256 ∷ neg 528 ∷ neg 720 ∷ neg 1792 ∷ neg 1232 ∷ pos 1200 ∷ pos 768 ∷ pos 176 ∷ neg 1200 ∷ pos 256 ∷ neg 176 ∷ neg 240 ∷ neg 1280 ∷ pos 1232 ∷ neg 1200 ∷ pos 1280 ∷ pos 176 ∷ pos 0 ∷ pos 0 ∷ pos 6400 ∷ pos 1200 ∷ pos 256 ∷ neg 1280 ∷ pos 1680 ∷ pos 256 ∷ pos 3840 ∷ neg 720 ∷ pos 1280 ∷ pos 6400 ∷ neg 1680 ∷ pos 1280 ∷ neg 6399 ∷ pos 1680 ∷ pos 1280 ∷ pos 3840 ∷ neg 720 ∷ neg 768 ∷ pos 1280 ∷ neg 1200 ∷ neg 1792 ∷ pos 3840 ∷ pos 1680 ∷ pos 256 ∷ neg 4368 ∷ neg 720 ∷ neg 1792 ∷ pos 48 ∷ pos 1200 ∷ pos 768 ∷ pos 1456 ∷ neg 1200 ∷ pos 256 ∷ neg 9135 ∷ neg 240 ∷ neg 1280 ∷ neg 7727 ∷ neg 1200 ∷ []; nrp = pos 42; LARpp = pos 14746 ∷ neg 18022 ∷ neg 8192 ∷ pos 4096 ∷ neg 6228 ∷ neg 546 ∷ pos 3276 ∷ neg 1422 ∷ []; v = neg 7226 ∷ neg 8762 ∷ pos 2801 ∷ pos 2015 ∷ pos 4616 ∷ neg 2326 ∷ pos 10136 ∷ pos 3135 ∷ []; msr = neg 5798 }) (pos 15 ∷ pos 22 ∷ pos 10 ∷ pos 0 ∷ pos 14 ∷ pos 12 ∷ pos 0 ∷ pos 5 ∷ pos 85 ∷ pos 3 ∷ pos 3 ∷ pos 0 ∷ pos 2 ∷ pos 7 ∷ pos 0 ∷ pos 2 ∷ pos 4 ∷ pos 3 ∷ pos 2 ∷ pos 7 ∷ pos 3 ∷ pos 1 ∷ pos 5 ∷ pos 5 ∷ pos 3 ∷ pos 1 ∷ pos 3 ∷ pos 2 ∷ pos 17 ∷ pos 6 ∷ pos 5 ∷ pos 5 ∷ pos 6 ∷ pos 6 ∷ pos 2 ∷ pos 3 ∷ pos 7 ∷ pos 5 ∷ pos 6 ∷ pos 6 ∷ pos 5 ∷ pos 2 ∷ pos 63 ∷ pos 3 ∷ pos 1 ∷ pos 41 ∷ pos 1 ∷ pos 2 ∷ pos 6 ∷ pos 6 ∷ pos 1 ∷ pos 7 ∷ pos 4 ∷ pos 2 ∷ pos 5 ∷ pos 5 ∷ pos 0 ∷ pos 5 ∷ pos 7 ∷ pos 1 ∷ pos 3 ∷ pos 2 ∷ pos 15 ∷ pos 3 ∷ pos 1 ∷ pos 1 ∷ pos 5 ∷ pos 3 ∷ pos 5 ∷ pos 4 ∷ pos 0 ∷ pos 3 ∷ pos 5 ∷ pos 5 ∷ pos 7 ∷ pos 0 ∷ []) (replicate 160 (pos 0)) ≡ record { number = 0; state = record { drp = neg 1280 ∷ pos 1232 ∷ neg 800 ∷ pos 1280 ∷ pos 176 ∷ pos 240 ∷ pos 0 ∷ pos 6400 ∷ pos 1440 ∷ pos 256 ∷ neg 1280 ∷ pos 2080 ∷ pos 256 ∷ pos 3840 ∷ neg 320 ∷ pos 1280 ∷ pos 6400 ∷ neg 1920 ∷ pos 1280 ∷ neg 6399 ∷ pos 1600 ∷ pos 1280 ∷ pos 3840 ∷ neg 160 ∷ neg 768 ∷ pos 1280 ∷ neg 960 ∷ neg 1792 ∷ pos 3840 ∷ pos 2080 ∷ pos 256 ∷ neg 4368 ∷ neg 320 ∷ neg 1792 ∷ pos 48 ∷ pos 1440 ∷ pos 768 ∷ pos 1456 ∷ neg 1440 ∷ pos 256 ∷ pos 0 ∷ neg 1524 ∷ pos 1280 ∷ pos 0 ∷ neg 2652 ∷ neg 768 ∷ pos 0 ∷ pos 2028 ∷ neg 1792 ∷ pos 0 ∷ pos 4876 ∷ pos 256 ∷ neg 528 ∷ neg 3940 ∷ neg 1792 ∷ neg 1232 ∷ pos 5692 ∷ pos 768 ∷ pos 176 ∷ neg 548 ∷ pos 256 ∷ neg 176 ∷ neg 2164 ∷ neg 1280 ∷ pos 1232 ∷ pos 1120 ∷ pos 1280 ∷ pos 176 ∷ pos 2160 ∷ pos 0 ∷ pos 6400 ∷ neg 3040 ∷ pos 256 ∷ neg 1280 ∷ pos 4000 ∷ pos 256 ∷ pos 3840 ∷ pos 4160 ∷ pos 1280 ∷ pos 6400 ∷ neg 1920 ∷ pos 1280 ∷ neg 6463 ∷ pos 1600 ∷ pos 1280 ∷ pos 3520 ∷ neg 160 ∷ neg 768 ∷ pos 960 ∷ neg 960 ∷ neg 1792 ∷ pos 4032 ∷ pos 2080 ∷ pos 256 ∷ neg 4432 ∷ neg 320 ∷ neg 1792 ∷ pos 240 ∷ pos 1440 ∷ pos 768 ∷ pos 1520 ∷ neg 1440 ∷ pos 256 ∷ neg 448 ∷ neg 1524 ∷ pos 1280 ∷ neg 64 ∷ neg 2652 ∷ neg 768 ∷ pos 192 ∷ pos 2028 ∷ neg 1792 ∷ pos 192 ∷ pos 4876 ∷ pos 256 ∷ neg 80 ∷ neg 3940 ∷ neg 1792 ∷ neg 1680 ∷ pos 5692 ∷ []; nrp = pos 63; LARpp = neg 13926 ∷ neg 8192 ∷ neg 8192 ∷ neg 9012 ∷ pos 6988 ∷ pos 8192 ∷ neg 6554 ∷ pos 6006 ∷ []; v = pos 8773 ∷ neg 7986 ∷ neg 5130 ∷ neg 967 ∷ pos 1150 ∷ pos 5700 ∷ pos 4377 ∷ neg 2645 ∷ []; msr = pos 24373 }; samples = neg 13992 ∷ neg 25952 ∷ neg 25400 ∷ neg 32768 ∷ neg 32768 ∷ neg 32768 ∷ neg 32768 ∷ neg 32768 ∷ neg 32768 ∷ neg 32768 ∷ neg 32768 ∷ neg 32768 ∷ neg 32768 ∷ neg 30104 ∷ neg 32768 ∷ neg 32008 ∷ neg 29344 ∷ neg 29488 ∷ neg 24536 ∷ neg 22328 ∷ neg 19440 ∷ neg 19304 ∷ neg 16240 ∷ neg 15632 ∷ neg 16464 ∷ neg 17240 ∷ neg 16416 ∷ neg 15336 ∷ neg 16728 ∷ neg 15552 ∷ neg 17056 ∷ neg 20144 ∷ neg 22024 ∷ neg 19856 ∷ neg 21992 ∷ neg 21960 ∷ neg 23016 ∷ neg 22256 ∷ neg 24256 ∷ neg 23384 ∷ neg 25688 ∷ neg 25288 ∷ neg 27592 ∷ neg 23912 ∷ neg 24880 ∷ neg 23344 ∷ neg 22240 ∷ neg 7376 ∷ neg 2768 ∷ pos 4528 ∷ pos 10432 ∷ pos 24568 ∷ pos 28256 ∷ pos 32760 ∷ pos 32760 ∷ pos 32760 ∷ pos 32760 ∷ pos 32760 ∷ pos 32760 ∷ pos 32760 ∷ pos 32760 ∷ pos 32760 ∷ pos 32760 ∷ pos 32760 ∷ pos 32760 ∷ pos 32760 ∷ pos 32760 ∷ pos 32760 ∷ pos 32760 ∷ pos 32760 ∷ pos 32760 ∷ pos 32760 ∷ pos 32760 ∷ pos 32760 ∷ pos 32760 ∷ pos 32760 ∷ pos 32760 ∷ pos 32760 ∷ pos 32760 ∷ pos 32760 ∷ pos 32760 ∷ pos 32760 ∷ pos 32760 ∷ pos 32760 ∷ pos 32760 ∷ pos 32760 ∷ pos 32760 ∷ pos 32760 ∷ pos 32760 ∷ pos 32760 ∷ pos 32760 ∷ pos 32760 ∷ pos 32760 ∷ pos 32760 ∷ pos 32760 ∷ pos 27488 ∷ pos 32760 ∷ pos 32760 ∷ pos 32104 ∷ pos 27760 ∷ pos 32760 ∷ pos 29504 ∷ pos 21208 ∷ pos 24632 ∷ pos 24136 ∷ pos 18808 ∷ pos 17608 ∷ pos 26416 ∷ pos 23496 ∷ pos 22608 ∷ pos 32760 ∷ pos 32760 ∷ pos 32760 ∷ pos 32760 ∷ pos 32760 ∷ pos 32760 ∷ pos 32760 ∷ pos 32760 ∷ pos 32760 ∷ pos 32760 ∷ pos 32760 ∷ pos 32760 ∷ pos 32760 ∷ pos 32760 ∷ pos 32760 ∷ pos 32760 ∷ pos 32760 ∷ pos 32760 ∷ pos 32760 ∷ pos 32760 ∷ pos 32760 ∷ pos 32760 ∷ pos 32760 ∷ pos 32760 ∷ pos 32760 ∷ pos 32760 ∷ pos 32760 ∷ pos 32760 ∷ pos 32760 ∷ pos 32760 ∷ pos 32760 ∷ pos 32760 ∷ pos 32760 ∷ pos 32760 ∷ pos 32760 ∷ pos 32760 ∷ pos 32760 ∷ pos 32760 ∷ pos 32760 ∷ pos 32760 ∷ pos 32760 ∷ pos 32760 ∷ pos 32760 ∷ pos 32760 ∷ pos 32760 ∷ pos 32760 ∷ pos 32760 ∷ pos 32760 ∷ pos 32760 ∷ pos 32760 ∷ [] }
unfolding opened
d04_badlags_1 = refl

-- and further on
pub d04_badlags_30 : decode (record { drp = neg 31966 ∷ pos 5080 ∷ pos 25066 ∷ neg 32767 ∷ pos 5756 ∷ pos 9709 ∷ pos 13063 ∷ neg 9412 ∷ pos 2925 ∷ pos 22770 ∷ pos 5016 ∷ pos 32760 ∷ pos 21721 ∷ neg 20006 ∷ neg 15064 ∷ neg 4484 ∷ neg 32768 ∷ pos 12836 ∷ pos 22494 ∷ pos 14744 ∷ neg 10331 ∷ pos 3770 ∷ neg 13344 ∷ pos 22310 ∷ pos 4457 ∷ pos 26126 ∷ pos 3825 ∷ neg 32766 ∷ neg 7452 ∷ neg 30556 ∷ neg 13607 ∷ pos 12876 ∷ neg 7340 ∷ neg 21101 ∷ pos 17491 ∷ neg 32766 ∷ pos 9400 ∷ pos 28943 ∷ pos 5106 ∷ neg 32763 ∷ neg 2592 ∷ pos 22309 ∷ pos 1385 ∷ pos 21581 ∷ pos 3825 ∷ neg 22192 ∷ neg 16360 ∷ pos 10075 ∷ neg 32766 ∷ pos 11860 ∷ pos 18620 ∷ neg 1255 ∷ neg 11947 ∷ neg 5446 ∷ pos 5823 ∷ pos 17620 ∷ pos 1385 ∷ pos 19344 ∷ neg 20699 ∷ pos 9400 ∷ pos 32332 ∷ neg 4110 ∷ neg 32763 ∷ neg 29603 ∷ pos 24490 ∷ pos 13821 ∷ neg 31965 ∷ pos 15832 ∷ pos 25065 ∷ neg 32766 ∷ pos 13436 ∷ pos 9709 ∷ pos 13063 ∷ neg 20163 ∷ pos 2925 ∷ pos 22769 ∷ pos 12696 ∷ pos 32759 ∷ pos 21720 ∷ neg 18469 ∷ neg 15064 ∷ neg 4484 ∷ neg 32767 ∷ pos 12444 ∷ pos 22493 ∷ pos 14744 ∷ neg 10275 ∷ pos 3770 ∷ neg 13344 ∷ pos 22701 ∷ pos 4457 ∷ pos 26125 ∷ pos 3769 ∷ neg 32765 ∷ neg 7452 ∷ neg 30835 ∷ neg 13607 ∷ pos 12876 ∷ neg 6948 ∷ neg 21100 ∷ pos 17490 ∷ neg 32373 ∷ pos 9400 ∷ pos 28942 ∷ pos 5274 ∷ neg 32762 ∷ neg 2592 ∷ pos 22252 ∷ pos 1385 ∷ pos 21580 ∷ pos 3993 ∷ neg 22191 ∷ neg 16360 ∷ pos 9907 ∷ neg 32765 ∷ pos 11860 ∷ pos 18339 ∷ neg 1255 ∷ neg 11947 ∷ neg 5614 ∷ []; nrp = pos 66; LARpp = neg 13106 ∷ neg 2458 ∷ neg 12288 ∷ neg 4916 ∷ neg 220 ∷ pos 8192 ∷ pos 1310 ∷ pos 9718 ∷ []; v = neg 22920 ∷ neg 15865 ∷ pos 14566 ∷ pos 19213 ∷ pos 1647 ∷ neg 2743 ∷ pos 2099 ∷ neg 32768 ∷ []; msr = neg 32768 }) (pos 30 ∷ pos 57 ∷ pos 16 ∷ pos 0 ∷ pos 13 ∷ pos 0 ∷ pos 2 ∷ pos 2 ∷ pos 80 ∷ pos 3 ∷ pos 1 ∷ pos 28 ∷ pos 7 ∷ pos 2 ∷ pos 1 ∷ pos 3 ∷ pos 4 ∷ pos 0 ∷ pos 7 ∷ pos 5 ∷ pos 4 ∷ pos 6 ∷ pos 6 ∷ pos 5 ∷ pos 0 ∷ pos 30 ∷ pos 3 ∷ pos 2 ∷ pos 34 ∷ pos 1 ∷ pos 6 ∷ pos 6 ∷ pos 2 ∷ pos 1 ∷ pos 3 ∷ pos 1 ∷ pos 5 ∷ pos 3 ∷ pos 6 ∷ pos 5 ∷ pos 0 ∷ pos 5 ∷ pos 115 ∷ pos 3 ∷ pos 1 ∷ pos 59 ∷ pos 1 ∷ pos 6 ∷ pos 1 ∷ pos 0 ∷ pos 6 ∷ pos 7 ∷ pos 5 ∷ pos 5 ∷ pos 7 ∷ pos 2 ∷ pos 7 ∷ pos 4 ∷ pos 6 ∷ pos 30 ∷ pos 3 ∷ pos 0 ∷ pos 43 ∷ pos 7 ∷ pos 0 ∷ pos 2 ∷ pos 7 ∷ pos 7 ∷ pos 0 ∷ pos 3 ∷ pos 5 ∷ pos 0 ∷ pos 4 ∷ pos 1 ∷ pos 7 ∷ pos 5 ∷ []) (replicate 160 (pos 0)) ≡ record { number = 0; state = record { drp = neg 15064 ∷ neg 4484 ∷ neg 32768 ∷ pos 12444 ∷ pos 22492 ∷ pos 16504 ∷ neg 10275 ∷ pos 3770 ∷ neg 11584 ∷ pos 22700 ∷ pos 4457 ∷ pos 25068 ∷ pos 3769 ∷ neg 32764 ∷ neg 9212 ∷ neg 30834 ∷ neg 13607 ∷ pos 12524 ∷ neg 6948 ∷ neg 21099 ∷ pos 15729 ∷ neg 32372 ∷ pos 9400 ∷ pos 29997 ∷ pos 5274 ∷ neg 32761 ∷ neg 2944 ∷ pos 22251 ∷ pos 1385 ∷ pos 23339 ∷ pos 3993 ∷ neg 22190 ∷ neg 15304 ∷ pos 9907 ∷ neg 32764 ∷ pos 9396 ∷ pos 18338 ∷ neg 1255 ∷ neg 10891 ∷ neg 5614 ∷ pos 14744 ∷ neg 25634 ∷ pos 3770 ∷ neg 13344 ∷ pos 32767 ∷ pos 4457 ∷ pos 26124 ∷ neg 11590 ∷ neg 32764 ∷ neg 7452 ∷ neg 32768 ∷ neg 13607 ∷ pos 12876 ∷ pos 8411 ∷ neg 21099 ∷ pos 17489 ∷ neg 10869 ∷ pos 9400 ∷ pos 28941 ∷ pos 14490 ∷ neg 32761 ∷ neg 2592 ∷ pos 31467 ∷ pos 1385 ∷ pos 21579 ∷ pos 25496 ∷ neg 22190 ∷ neg 16360 ∷ pos 691 ∷ neg 32764 ∷ pos 11860 ∷ pos 32767 ∷ neg 1255 ∷ neg 11947 ∷ neg 2542 ∷ neg 2592 ∷ pos 23763 ∷ pos 16744 ∷ pos 21579 ∷ pos 3201 ∷ neg 16814 ∷ neg 16360 ∷ pos 9035 ∷ neg 32768 ∷ pos 11860 ∷ pos 18410 ∷ neg 3559 ∷ neg 11947 ∷ neg 5238 ∷ pos 11199 ∷ pos 17618 ∷ neg 71 ∷ pos 24718 ∷ neg 20697 ∷ pos 10856 ∷ pos 26954 ∷ neg 4110 ∷ neg 32137 ∷ neg 30369 ∷ pos 24488 ∷ pos 14029 ∷ neg 29659 ∷ pos 15832 ∷ pos 26103 ∷ neg 32768 ∷ pos 13436 ∷ pos 10749 ∷ pos 13831 ∷ neg 20161 ∷ pos 3549 ∷ pos 18927 ∷ pos 12696 ∷ pos 31301 ∷ pos 27094 ∷ neg 18467 ∷ neg 15064 ∷ neg 2180 ∷ neg 32767 ∷ pos 12444 ∷ pos 22491 ∷ []; nrp = pos 115; LARpp = neg 1638 ∷ pos 20480 ∷ neg 3276 ∷ neg 9012 ∷ pos 5786 ∷ neg 4916 ∷ neg 2622 ∷ pos 436 ∷ []; v = pos 18369 ∷ neg 10962 ∷ pos 12047 ∷ pos 778 ∷ neg 32768 ∷ neg 3561 ∷ pos 7249 ∷ neg 7431 ∷ []; msr = neg 2773 }; samples = neg 21184 ∷ pos 32760 ∷ pos 25136 ∷ pos 25024 ∷ pos 32760 ∷ pos 32760 ∷ pos 29744 ∷ pos 32760 ∷ pos 20608 ∷ pos 3176 ∷ pos 24528 ∷ pos 32760 ∷ neg 4096 ∷ neg 32768 ∷ neg 32768 ∷ pos 27360 ∷ pos 32760 ∷ pos 32760 ∷ neg 9904 ∷ pos 20600 ∷ pos 32760 ∷ pos 32760 ∷ pos 5632 ∷ neg 32768 ∷ neg 16152 ∷ pos 32760 ∷ pos 8360 ∷ neg 32768 ∷ pos 8 ∷ pos 32760 ∷ pos 24872 ∷ neg 16768 ∷ pos 32760 ∷ pos 32760 ∷ pos 29056 ∷ pos 18696 ∷ pos 32760 ∷ pos 32760 ∷ pos 32760 ∷ pos 19696 ∷ neg 32768 ∷ neg 28720 ∷ neg 32768 ∷ neg 27208 ∷ pos 15440 ∷ pos 32760 ∷ pos 27216 ∷ neg 26184 ∷ neg 32768 ∷ pos 24656 ∷ pos 32760 ∷ pos 32760 ∷ pos 28672 ∷ neg 14000 ∷ neg 32768 ∷ neg 32768 ∷ neg 32768 ∷ neg 32768 ∷ neg 20608 ∷ neg 32768 ∷ neg 32768 ∷ neg 32768 ∷ neg 20416 ∷ pos 22408 ∷ pos 31704 ∷ neg 32768 ∷ neg 32768 ∷ pos 5056 ∷ pos 32760 ∷ pos 32760 ∷ pos 22952 ∷ neg 17288 ∷ neg 32768 ∷ neg 1232 ∷ neg 32768 ∷ neg 32768 ∷ neg 11512 ∷ pos 32760 ∷ neg 20336 ∷ neg 32768 ∷ neg 12576 ∷ pos 27344 ∷ neg 17280 ∷ neg 32768 ∷ pos 2616 ∷ pos 32760 ∷ pos 32760 ∷ neg 7032 ∷ neg 32768 ∷ neg 32768 ∷ neg 32768 ∷ neg 32768 ∷ neg 32768 ∷ pos 5024 ∷ neg 12472 ∷ neg 32768 ∷ neg 32768 ∷ pos 4776 ∷ pos 32760 ∷ pos 32760 ∷ neg 7824 ∷ neg 30952 ∷ pos 32760 ∷ pos 32760 ∷ pos 32760 ∷ pos 32760 ∷ pos 32760 ∷ neg 192 ∷ neg 14632 ∷ neg 32768 ∷ neg 15384 ∷ pos 32760 ∷ pos 32760 ∷ neg 6864 ∷ neg 32768 ∷ neg 9856 ∷ pos 32760 ∷ pos 32760 ∷ pos 32760 ∷ pos 32760 ∷ pos 32760 ∷ neg 24336 ∷ neg 10360 ∷ neg 10576 ∷ pos 3512 ∷ pos 9504 ∷ pos 27424 ∷ neg 17032 ∷ neg 32768 ∷ neg 25752 ∷ pos 32760 ∷ pos 32760 ∷ pos 26944 ∷ neg 13264 ∷ pos 22424 ∷ pos 32760 ∷ pos 32760 ∷ neg 6160 ∷ neg 32768 ∷ pos 2616 ∷ pos 32760 ∷ neg 2632 ∷ neg 32768 ∷ pos 6168 ∷ pos 32184 ∷ neg 17168 ∷ neg 32768 ∷ pos 14568 ∷ pos 18808 ∷ neg 32768 ∷ neg 32768 ∷ pos 18632 ∷ pos 32760 ∷ pos 32760 ∷ neg 5544 ∷ neg 32768 ∷ neg 24968 ∷ neg 32768 ∷ neg 32768 ∷ neg 5552 ∷ [] }
unfolding opened
d04_badlags_30 = refl

-- the zero frame once more
pub d08_zeroframe_5 : decode (record { drp = pos 4 ∷ pos 0 ∷ pos 0 ∷ pos 4 ∷ pos 0 ∷ pos 0 ∷ pos 4 ∷ pos 0 ∷ pos 0 ∷ pos 4 ∷ pos 0 ∷ pos 0 ∷ pos 4 ∷ pos 0 ∷ pos 0 ∷ pos 4 ∷ pos 0 ∷ pos 0 ∷ pos 4 ∷ pos 0 ∷ pos 0 ∷ pos 4 ∷ pos 0 ∷ pos 0 ∷ pos 4 ∷ pos 0 ∷ pos 0 ∷ pos 4 ∷ pos 0 ∷ pos 0 ∷ pos 4 ∷ pos 0 ∷ pos 0 ∷ pos 4 ∷ pos 0 ∷ pos 0 ∷ pos 4 ∷ pos 0 ∷ pos 0 ∷ pos 0 ∷ pos 4 ∷ pos 0 ∷ pos 0 ∷ pos 4 ∷ pos 0 ∷ pos 0 ∷ pos 4 ∷ pos 0 ∷ pos 0 ∷ pos 4 ∷ pos 0 ∷ pos 0 ∷ pos 4 ∷ pos 0 ∷ pos 0 ∷ pos 4 ∷ pos 0 ∷ pos 0 ∷ pos 4 ∷ pos 0 ∷ pos 0 ∷ pos 4 ∷ pos 0 ∷ pos 0 ∷ pos 4 ∷ pos 0 ∷ pos 0 ∷ pos 4 ∷ pos 0 ∷ pos 0 ∷ pos 4 ∷ pos 0 ∷ pos 0 ∷ pos 4 ∷ pos 0 ∷ pos 0 ∷ pos 4 ∷ pos 0 ∷ pos 0 ∷ pos 0 ∷ pos 4 ∷ pos 0 ∷ pos 0 ∷ pos 4 ∷ pos 0 ∷ pos 0 ∷ pos 4 ∷ pos 0 ∷ pos 0 ∷ pos 4 ∷ pos 0 ∷ pos 0 ∷ pos 4 ∷ pos 0 ∷ pos 0 ∷ pos 4 ∷ pos 0 ∷ pos 0 ∷ pos 4 ∷ pos 0 ∷ pos 0 ∷ pos 4 ∷ pos 0 ∷ pos 0 ∷ pos 4 ∷ pos 0 ∷ pos 0 ∷ pos 4 ∷ pos 0 ∷ pos 0 ∷ pos 4 ∷ pos 0 ∷ pos 0 ∷ pos 4 ∷ pos 0 ∷ pos 0 ∷ pos 4 ∷ pos 0 ∷ pos 0 ∷ pos 0 ∷ []; nrp = pos 40; LARpp = pos 0 ∷ pos 0 ∷ pos 0 ∷ pos 0 ∷ neg 220 ∷ pos 546 ∷ neg 656 ∷ pos 436 ∷ []; v = pos 0 ∷ pos 0 ∷ pos 0 ∷ pos 4 ∷ pos 0 ∷ pos 0 ∷ pos 4 ∷ pos 0 ∷ []; msr = pos 7 }) (pos 32 ∷ pos 32 ∷ pos 20 ∷ pos 11 ∷ pos 8 ∷ pos 5 ∷ pos 3 ∷ pos 2 ∷ pos 40 ∷ pos 0 ∷ pos 0 ∷ pos 0 ∷ pos 4 ∷ pos 4 ∷ pos 4 ∷ pos 4 ∷ pos 4 ∷ pos 4 ∷ pos 4 ∷ pos 4 ∷ pos 4 ∷ pos 4 ∷ pos 4 ∷ pos 4 ∷ pos 4 ∷ pos 40 ∷ pos 0 ∷ pos 0 ∷ pos 0 ∷ pos 4 ∷ pos 4 ∷ pos 4 ∷ pos 4 ∷ pos 4 ∷ pos 4 ∷ pos 4 ∷ pos 4 ∷ pos 4 ∷ pos 4 ∷ pos 4 ∷ pos 4 ∷ pos 4 ∷ pos 40 ∷ pos 0 ∷ pos 0 ∷ pos 0 ∷ pos 4 ∷ pos 4 ∷ pos 4 ∷ pos 4 ∷ pos 4 ∷ pos 4 ∷ pos 4 ∷ pos 4 ∷ pos 4 ∷ pos 4 ∷ pos 4 ∷ pos 4 ∷ pos 4 ∷ pos 40 ∷ pos 0 ∷ pos 0 ∷ pos 0 ∷ pos 4 ∷ pos 4 ∷ pos 4 ∷ pos 4 ∷ pos 4 ∷ pos 4 ∷ pos 4 ∷ pos 4 ∷ pos 4 ∷ pos 4 ∷ pos 4 ∷ pos 4 ∷ pos 4 ∷ []) (replicate 160 (pos 0)) ≡ record { number = 0; state = record { drp = pos 4 ∷ pos 0 ∷ pos 0 ∷ pos 4 ∷ pos 0 ∷ pos 0 ∷ pos 4 ∷ pos 0 ∷ pos 0 ∷ pos 4 ∷ pos 0 ∷ pos 0 ∷ pos 4 ∷ pos 0 ∷ pos 0 ∷ pos 4 ∷ pos 0 ∷ pos 0 ∷ pos 4 ∷ pos 0 ∷ pos 0 ∷ pos 4 ∷ pos 0 ∷ pos 0 ∷ pos 4 ∷ pos 0 ∷ pos 0 ∷ pos 4 ∷ pos 0 ∷ pos 0 ∷ pos 4 ∷ pos 0 ∷ pos 0 ∷ pos 4 ∷ pos 0 ∷ pos 0 ∷ pos 4 ∷ pos 0 ∷ pos 0 ∷ pos 0 ∷ pos 4 ∷ pos 0 ∷ pos 0 ∷ pos 4 ∷ pos 0 ∷ pos 0 ∷ pos 4 ∷ pos 0 ∷ pos 0 ∷ pos 4 ∷ pos 0 ∷ pos 0 ∷ pos 4 ∷ pos 0 ∷ pos 0 ∷ pos 4 ∷ pos 0 ∷ pos 0 ∷ pos 4 ∷ pos 0 ∷ pos 0 ∷ pos 4 ∷ pos 0 ∷ pos 0 ∷ pos 4 ∷ pos 0 ∷ pos 0 ∷ pos 4 ∷ pos 0 ∷ pos 0 ∷ pos 4 ∷ pos 0 ∷ pos 0 ∷ pos 4 ∷ pos 0 ∷ pos 0 ∷ pos 4 ∷ pos 0 ∷ pos 0 ∷ pos 0 ∷ pos 4 ∷ pos 0 ∷ pos 0 ∷ pos 4 ∷ pos 0 ∷ pos 0 ∷ pos 4 ∷ pos 0 ∷ pos 0 ∷ pos 4 ∷ pos 0 ∷ pos 0 ∷ pos 4 ∷ pos 0 ∷ pos 0 ∷ pos 4 ∷ pos 0 ∷ pos 0 ∷ pos 4 ∷ pos 0 ∷ pos 0 ∷ pos 4 ∷ pos 0 ∷ pos 0 ∷ pos 4 ∷ pos 0 ∷ pos 0 ∷ pos 4 ∷ pos 0 ∷ pos 0 ∷ pos 4 ∷ pos 0 ∷ pos 0 ∷ pos 4 ∷ pos 0 ∷ pos 0 ∷ pos 4 ∷ pos 0 ∷ pos 0 ∷ pos 0 ∷ []; nrp = pos 40; LARpp = pos 0 ∷ pos 0 ∷ pos 0 ∷ pos 0 ∷ neg 220 ∷ pos 546 ∷ neg 656 ∷ pos 436 ∷ []; v = pos 0 ∷ pos 0 ∷ pos 0 ∷ pos 4 ∷ pos 0 ∷ pos 0 ∷ pos 4 ∷ pos 0 ∷ []; msr = pos 7 }; samples = pos 16 ∷ pos 16 ∷ pos 16 ∷ pos 16 ∷ pos 16 ∷ pos 16 ∷ pos 16 ∷ pos 16 ∷ pos 16 ∷ pos 16 ∷ pos 16 ∷ pos 16 ∷ pos 16 ∷ pos 16 ∷ pos 16 ∷ pos 16 ∷ pos 16 ∷ pos 16 ∷ pos 16 ∷ pos 16 ∷ pos 16 ∷ pos 16 ∷ pos 16 ∷ pos 16 ∷ pos 16 ∷ pos 16 ∷ pos 16 ∷ pos 16 ∷ pos 16 ∷ pos 16 ∷ pos 16 ∷ pos 16 ∷ pos 16 ∷ pos 16 ∷ pos 16 ∷ pos 16 ∷ pos 16 ∷ pos 16 ∷ pos 16 ∷ pos 8 ∷ pos 16 ∷ pos 16 ∷ pos 16 ∷ pos 16 ∷ pos 16 ∷ pos 16 ∷ pos 16 ∷ pos 16 ∷ pos 16 ∷ pos 16 ∷ pos 16 ∷ pos 16 ∷ pos 16 ∷ pos 16 ∷ pos 16 ∷ pos 16 ∷ pos 16 ∷ pos 16 ∷ pos 16 ∷ pos 16 ∷ pos 16 ∷ pos 16 ∷ pos 16 ∷ pos 16 ∷ pos 16 ∷ pos 16 ∷ pos 16 ∷ pos 16 ∷ pos 16 ∷ pos 16 ∷ pos 16 ∷ pos 16 ∷ pos 16 ∷ pos 16 ∷ pos 16 ∷ pos 16 ∷ pos 16 ∷ pos 16 ∷ pos 16 ∷ pos 8 ∷ pos 16 ∷ pos 16 ∷ pos 16 ∷ pos 16 ∷ pos 16 ∷ pos 16 ∷ pos 16 ∷ pos 16 ∷ pos 16 ∷ pos 16 ∷ pos 16 ∷ pos 16 ∷ pos 16 ∷ pos 16 ∷ pos 16 ∷ pos 16 ∷ pos 16 ∷ pos 16 ∷ pos 16 ∷ pos 16 ∷ pos 16 ∷ pos 16 ∷ pos 16 ∷ pos 16 ∷ pos 16 ∷ pos 16 ∷ pos 16 ∷ pos 16 ∷ pos 16 ∷ pos 16 ∷ pos 16 ∷ pos 16 ∷ pos 16 ∷ pos 16 ∷ pos 16 ∷ pos 16 ∷ pos 16 ∷ pos 16 ∷ pos 16 ∷ pos 8 ∷ pos 16 ∷ pos 16 ∷ pos 16 ∷ pos 16 ∷ pos 16 ∷ pos 16 ∷ pos 16 ∷ pos 16 ∷ pos 16 ∷ pos 16 ∷ pos 16 ∷ pos 16 ∷ pos 16 ∷ pos 16 ∷ pos 16 ∷ pos 16 ∷ pos 16 ∷ pos 16 ∷ pos 16 ∷ pos 16 ∷ pos 16 ∷ pos 16 ∷ pos 16 ∷ pos 16 ∷ pos 16 ∷ pos 16 ∷ pos 16 ∷ pos 16 ∷ pos 16 ∷ pos 16 ∷ pos 16 ∷ pos 16 ∷ pos 16 ∷ pos 16 ∷ pos 16 ∷ pos 16 ∷ pos 16 ∷ pos 16 ∷ pos 16 ∷ pos 8 ∷ [] }
unfolding opened
d08_zeroframe_5 = refl

-- a loud frame of our encoder
pub e29_rand16_30 : decode (record { drp = neg 15344 ∷ neg 3855 ∷ neg 734 ∷ pos 3074 ∷ pos 1380 ∷ pos 86 ∷ pos 21502 ∷ neg 1072 ∷ pos 2582 ∷ pos 9207 ∷ pos 1407 ∷ pos 2497 ∷ pos 9229 ∷ pos 9428 ∷ neg 2343 ∷ neg 15356 ∷ neg 7012 ∷ pos 3787 ∷ pos 9214 ∷ neg 4035 ∷ neg 452 ∷ neg 3074 ∷ pos 1519 ∷ neg 2323 ∷ neg 3073 ∷ pos 4029 ∷ neg 1366 ∷ pos 22123 ∷ pos 505 ∷ neg 3441 ∷ neg 955 ∷ pos 103 ∷ pos 1591 ∷ neg 11331 ∷ pos 776 ∷ neg 2031 ∷ neg 25561 ∷ pos 180 ∷ pos 414 ∷ pos 1382 ∷ pos 1382 ∷ pos 6203 ∷ pos 25 ∷ pos 9416 ∷ pos 1212 ∷ pos 1413 ∷ neg 4038 ∷ pos 14327 ∷ neg 2636 ∷ neg 4038 ∷ neg 13834 ∷ neg 2604 ∷ pos 1342 ∷ pos 14328 ∷ pos 130 ∷ pos 1349 ∷ neg 10208 ∷ pos 240 ∷ neg 916 ∷ pos 14327 ∷ pos 1826 ∷ neg 6382 ∷ pos 10239 ∷ neg 2511 ∷ pos 6718 ∷ pos 14076 ∷ pos 1123 ∷ neg 1317 ∷ neg 3322 ∷ neg 1349 ∷ neg 257 ∷ neg 5068 ∷ pos 483 ∷ pos 30 ∷ pos 9574 ∷ neg 375 ∷ pos 904 ∷ pos 9367 ∷ pos 492 ∷ pos 874 ∷ neg 1076 ∷ pos 1410 ∷ pos 1826 ∷ pos 7743 ∷ pos 177 ∷ pos 1100 ∷ neg 334 ∷ pos 36 ∷ neg 6355 ∷ neg 3966 ∷ pos 272 ∷ pos 1593 ∷ neg 8947 ∷ pos 63 ∷ neg 11374 ∷ pos 484 ∷ pos 484 ∷ neg 13956 ∷ pos 9 ∷ pos 3296 ∷ pos 16551 ∷ pos 495 ∷ neg 1413 ∷ pos 2711 ∷ neg 923 ∷ neg 1413 ∷ neg 2538 ∷ neg 911 ∷ pos 470 ∷ pos 11927 ∷ pos 46 ∷ pos 472 ∷ neg 5877 ∷ pos 84 ∷ neg 321 ∷ pos 7319 ∷ pos 639 ∷ neg 2234 ∷ pos 10496 ∷ neg 879 ∷ []; nrp = pos 56; LARpp = pos 9012 ∷ pos 4096 ∷ pos 1638 ∷ pos 3276 ∷ pos 3384 ∷ pos 1638 ∷ pos 1310 ∷ pos 436 ∷ []; v = neg 10709 ∷ pos 4871 ∷ pos 3181 ∷ neg 3296 ∷ pos 5399 ∷ pos 5899 ∷ pos 7667 ∷ neg 3209 ∷ []; msr = neg 1155 }) (pos 44 ∷ pos 39 ∷ pos 25 ∷ pos 15 ∷ pos 8 ∷ pos 5 ∷ pos 3 ∷ pos 2 ∷ pos 96 ∷ pos 1 ∷ pos 2 ∷ pos 63 ∷ pos 5 ∷ pos 4 ∷ pos 4 ∷ pos 4 ∷ pos 1 ∷ pos 0 ∷ pos 2 ∷ pos 7 ∷ pos 3 ∷ pos 1 ∷ pos 4 ∷ pos 3 ∷ pos 0 ∷ pos 40 ∷ pos 1 ∷ pos 2 ∷ pos 56 ∷ pos 3 ∷ pos 1 ∷ pos 3 ∷ pos 1 ∷ pos 6 ∷ pos 7 ∷ pos 4 ∷ pos 2 ∷ pos 7 ∷ pos 5 ∷ pos 2 ∷ pos 7 ∷ pos 7 ∷ pos 66 ∷ pos 1 ∷ pos 0 ∷ pos 60 ∷ pos 4 ∷ pos 4 ∷ pos 0 ∷ pos 2 ∷ pos 2 ∷ pos 6 ∷ pos 4 ∷ pos 7 ∷ pos 2 ∷ pos 2 ∷ pos 5 ∷ pos 4 ∷ pos 6 ∷ pos 41 ∷ pos 1 ∷ pos 3 ∷ pos 61 ∷ pos 3 ∷ pos 7 ∷ pos 3 ∷ pos 0 ∷ pos 6 ∷ pos 3 ∷ pos 2 ∷ pos 3 ∷ pos 3 ∷ pos 4 ∷ pos 2 ∷ pos 5 ∷ pos 4 ∷ []) (replicate 160 (pos 0)) ≡ record { number = 0; state = record { drp = neg 377 ∷ pos 494 ∷ pos 1830 ∷ pos 2710 ∷ pos 62 ∷ neg 10507 ∷ neg 117 ∷ pos 13 ∷ neg 675 ∷ neg 1388 ∷ pos 95 ∷ neg 10334 ∷ neg 3132 ∷ pos 22 ∷ pos 4402 ∷ pos 169 ∷ pos 169 ∷ pos 6852 ∷ pos 3 ∷ pos 1154 ∷ neg 1848 ∷ pos 173 ∷ neg 495 ∷ pos 4557 ∷ neg 323 ∷ neg 495 ∷ pos 12999 ∷ neg 319 ∷ pos 165 ∷ pos 1500 ∷ pos 16 ∷ pos 165 ∷ neg 6729 ∷ pos 29 ∷ neg 112 ∷ pos 16449 ∷ pos 224 ∷ neg 782 ∷ pos 7346 ∷ neg 308 ∷ neg 3789 ∷ pos 169 ∷ pos 169 ∷ neg 5947 ∷ pos 3 ∷ pos 1154 ∷ neg 27447 ∷ pos 173 ∷ neg 495 ∷ pos 1485 ∷ neg 323 ∷ neg 495 ∷ neg 13112 ∷ neg 319 ∷ pos 165 ∷ pos 11227 ∷ pos 16 ∷ pos 165 ∷ pos 3511 ∷ pos 29 ∷ neg 112 ∷ pos 23617 ∷ pos 224 ∷ neg 782 ∷ neg 18765 ∷ neg 308 ∷ neg 132 ∷ neg 9811 ∷ pos 641 ∷ pos 949 ∷ pos 10006 ∷ neg 3678 ∷ neg 41 ∷ pos 3333 ∷ neg 236 ∷ neg 486 ∷ pos 16672 ∷ neg 3617 ∷ neg 1096 ∷ pos 8 ∷ neg 108 ∷ neg 1326 ∷ pos 59 ∷ neg 3525 ∷ neg 2081 ∷ pos 1 ∷ pos 25491 ∷ neg 9607 ∷ pos 61 ∷ neg 3757 ∷ pos 520 ∷ neg 113 ∷ neg 25260 ∷ neg 4589 ∷ neg 112 ∷ pos 17977 ∷ pos 3930 ∷ pos 6 ∷ neg 3526 ∷ pos 1229 ∷ pos 10 ∷ neg 10791 ∷ pos 8266 ∷ pos 78 ∷ neg 3858 ∷ neg 6568 ∷ neg 108 ∷ neg 3630 ∷ neg 3434 ∷ pos 224 ∷ pos 3916 ∷ pos 3502 ∷ neg 1287 ∷ neg 10766 ∷ pos 1167 ∷ neg 83 ∷ pos 10582 ∷ pos 5835 ∷ neg 1266 ∷ pos 3200 ∷ []; nrp = pos 41; LARpp = pos 9830 ∷ pos 5734 ∷ pos 4096 ∷ pos 3276 ∷ neg 220 ∷ pos 546 ∷ neg 656 ∷ pos 436 ∷ []; v = pos 6590 ∷ neg 82 ∷ neg 6444 ∷ pos 5424 ∷ pos 2991 ∷ pos 12006 ∷ pos 3863 ∷ neg 4910 ∷ []; msr = pos 4991 }; samples = pos 2456 ∷ pos 4760 ∷ pos 24360 ∷ pos 19776 ∷ pos 7672 ∷ pos 11768 ∷ pos 2400 ∷ pos 4776 ∷ pos 13960 ∷ neg 3376 ∷ pos 6568 ∷ pos 9600 ∷ neg 15232 ∷ pos 4224 ∷ neg 32768 ∷ pos 2112 ∷ neg 4736 ∷ neg 32768 ∷ neg 1608 ∷ neg 7976 ∷ neg 29848 ∷ neg 4464 ∷ neg 15208 ∷ pos 32760 ∷ neg 9360 ∷ pos 88 ∷ neg 19936 ∷ neg 768 ∷ pos 3928 ∷ neg 32768 ∷ pos 1872 ∷ neg 8600 ∷ neg 752 ∷ neg 4704 ∷ neg 5824 ∷ neg 368 ∷ neg 2664 ∷ neg 5104 ∷ neg 32768 ∷ neg 1568 ∷ neg 10152 ∷ neg 7232 ∷ neg 6960 ∷ neg 5752 ∷ neg 2928 ∷ neg 26800 ∷ pos 368 ∷ neg 7848 ∷ neg 5712 ∷ neg 8512 ∷ neg 5496 ∷ neg 23280 ∷ neg 9392 ∷ neg 4720 ∷ pos 1336 ∷ neg 6424 ∷ neg 5208 ∷ pos 11312 ∷ neg 3664 ∷ pos 3256 ∷ neg 5136 ∷ pos 1840 ∷ neg 440 ∷ pos 8648 ∷ neg 1088 ∷ neg 928 ∷ pos 27936 ∷ neg 2192 ∷ pos 6080 ∷ pos 5560 ∷ pos 5032 ∷ pos 5520 ∷ neg 11792 ∷ pos 5280 ∷ neg 1072 ∷ pos 32760 ∷ neg 3064 ∷ pos 2576 ∷ pos 19912 ∷ pos 2920 ∷ pos 1480 ∷ pos 2560 ∷ pos 5672 ∷ neg 9464 ∷ pos 3488 ∷ pos 2440 ∷ neg 32768 ∷ pos 5424 ∷ neg 10200 ∷ neg 2160 ∷ neg 10600 ∷ neg 9608 ∷ neg 27832 ∷ neg 4888 ∷ neg 4424 ∷ pos 12976 ∷ neg 8120 ∷ neg 3512 ∷ pos 6824 ∷ neg 1264 ∷ pos 1960 ∷ pos 32760 ∷ neg 2088 ∷ pos 5688 ∷ neg 31232 ∷ pos 10616 ∷ pos 1848 ∷ neg 22312 ∷ pos 1664 ∷ neg 6520 ∷ pos 21256 ∷ neg 14496 ∷ pos 1488 ∷ pos 5784 ∷ neg 728 ∷ pos 2272 ∷ pos 30744 ∷ neg 7288 ∷ pos 2720 ∷ pos 4440 ∷ pos 4128 ∷ pos 1696 ∷ pos 368 ∷ neg 4256 ∷ neg 3456 ∷ pos 1704 ∷ pos 32760 ∷ neg 22656 ∷ pos 8472 ∷ neg 4464 ∷ pos 8072 ∷ pos 4208 ∷ neg 32768 ∷ neg 976 ∷ neg 9360 ∷ pos 32760 ∷ neg 5752 ∷ neg 4424 ∷ neg 4240 ∷ pos 4048 ∷ pos 5256 ∷ neg 25512 ∷ pos 19808 ∷ neg 6128 ∷ neg 5480 ∷ neg 14304 ∷ neg 1504 ∷ neg 7624 ∷ neg 11472 ∷ neg 1576 ∷ pos 1064 ∷ pos 4192 ∷ neg 6488 ∷ neg 21928 ∷ pos 3352 ∷ neg 3736 ∷ pos 18632 ∷ pos 5064 ∷ neg 3720 ∷ pos 9976 ∷ [] }
unfolding opened
e29_rand16_30 = refl

-- a quiet one
pub e32_speechlike_10 : decode (record { drp = pos 2 ∷ pos 0 ∷ neg 40 ∷ pos 8 ∷ pos 5 ∷ neg 24 ∷ pos 16 ∷ neg 4 ∷ pos 8 ∷ pos 16 ∷ pos 3 ∷ neg 8 ∷ pos 4 ∷ neg 6 ∷ neg 8 ∷ pos 6 ∷ pos 5 ∷ pos 8 ∷ neg 5 ∷ pos 4 ∷ pos 24 ∷ neg 16 ∷ neg 6 ∷ pos 8 ∷ neg 5 ∷ pos 1 ∷ pos 8 ∷ neg 5 ∷ neg 3 ∷ neg 24 ∷ pos 0 ∷ pos 0 ∷ pos 32 ∷ pos 3 ∷ pos 0 ∷ pos 0 ∷ pos 3 ∷ pos 0 ∷ pos 21 ∷ pos 0 ∷ neg 1 ∷ pos 0 ∷ pos 1 ∷ pos 1 ∷ neg 3 ∷ pos 0 ∷ neg 14 ∷ neg 9 ∷ pos 2 ∷ neg 8 ∷ neg 14 ∷ neg 1 ∷ pos 3 ∷ pos 10 ∷ pos 1 ∷ neg 3 ∷ pos 13 ∷ neg 2 ∷ neg 3 ∷ pos 30 ∷ pos 2 ∷ pos 3 ∷ neg 6 ∷ pos 1 ∷ pos 8 ∷ neg 2 ∷ neg 2 ∷ pos 3 ∷ pos 2 ∷ pos 0 ∷ pos 3 ∷ neg 14 ∷ neg 1 ∷ neg 8 ∷ neg 12 ∷ pos 0 ∷ pos 11 ∷ pos 5 ∷ pos 0 ∷ pos 0 ∷ pos 1 ∷ neg 1 ∷ pos 31 ∷ neg 1 ∷ pos 1 ∷ pos 7 ∷ pos 0 ∷ neg 1 ∷ pos 13 ∷ neg 1 ∷ neg 4 ∷ pos 13 ∷ pos 1 ∷ pos 1 ∷ neg 20 ∷ neg 14 ∷ pos 3 ∷ pos 6 ∷ neg 8 ∷ pos 6 ∷ neg 13 ∷ pos 3 ∷ pos 6 ∷ pos 13 ∷ neg 3 ∷ pos 1 ∷ pos 10 ∷ neg 3 ∷ pos 2 ∷ pos 14 ∷ pos 3 ∷ neg 2 ∷ pos 5 ∷ pos 8 ∷ neg 6 ∷ pos 2 ∷ pos 3 ∷ neg 2 ∷ neg 20 ∷ pos 3 ∷ []; nrp = pos 93; LARpp = neg 10650 ∷ pos 8192 ∷ neg 8192 ∷ pos 820 ∷ neg 1422 ∷ pos 4916 ∷ pos 5242 ∷ pos 2292 ∷ []; v = neg 26 ∷ neg 15 ∷ pos 1 ∷ neg 19 ∷ pos 8 ∷ pos 13 ∷ pos 6 ∷ neg 13 ∷ []; msr = neg 62 }) (pos 24 ∷ pos 45 ∷ pos 11 ∷ pos 15 ∷ pos 1 ∷ pos 9 ∷ pos 5 ∷ pos 4 ∷ pos 88 ∷ pos 3 ∷ pos 0 ∷ pos 5 ∷ pos 7 ∷ pos 2 ∷ pos 3 ∷ pos 3 ∷ pos 3 ∷ pos 4 ∷ pos 4 ∷ pos 4 ∷ pos 4 ∷ pos 3 ∷ pos 3 ∷ pos 3 ∷ pos 3 ∷ pos 42 ∷ pos 0 ∷ pos 2 ∷ pos 0 ∷ pos 2 ∷ pos 6 ∷ pos 5 ∷ pos 4 ∷ pos 3 ∷ pos 3 ∷ pos 3 ∷ pos 3 ∷ pos 4 ∷ pos 4 ∷ pos 4 ∷ pos 4 ∷ pos 3 ∷ pos 82 ∷ pos 3 ∷ pos 0 ∷ pos 0 ∷ pos 7 ∷ pos 4 ∷ pos 4 ∷ pos 3 ∷ pos 0 ∷ pos 3 ∷ pos 1 ∷ pos 4 ∷ pos 3 ∷ pos 3 ∷ pos 4 ∷ pos 4 ∷ pos 4 ∷ pos 47 ∷ pos 0 ∷ pos 0 ∷ pos 0 ∷ pos 3 ∷ pos 4 ∷ pos 5 ∷ pos 3 ∷ pos 5 ∷ pos 3 ∷ pos 3 ∷ pos 3 ∷ pos 3 ∷ pos 4 ∷ pos 4 ∷ pos 4 ∷ pos 4 ∷ []) (replicate 160 (pos 0)) ≡ record { number = 0; state = record { drp = neg 2 ∷ pos 0 ∷ pos 8 ∷ pos 0 ∷ pos 0 ∷ pos 13 ∷ pos 0 ∷ pos 0 ∷ pos 12 ∷ pos 0 ∷ pos 0 ∷ pos 2 ∷ pos 0 ∷ pos 0 ∷ neg 7 ∷ pos 0 ∷ neg 1 ∷ neg 2 ∷ pos 0 ∷ neg 1 ∷ neg 3 ∷ pos 0 ∷ pos 0 ∷ neg 1 ∷ pos 0 ∷ pos 0 ∷ pos 8 ∷ pos 0 ∷ pos 0 ∷ pos 5 ∷ pos 0 ∷ pos 0 ∷ pos 1 ∷ pos 0 ∷ pos 1 ∷ pos 1 ∷ pos 0 ∷ pos 0 ∷ neg 6 ∷ pos 0 ∷ pos 8 ∷ pos 3 ∷ pos 200 ∷ pos 7 ∷ pos 0 ∷ neg 72 ∷ pos 7 ∷ pos 0 ∷ neg 3 ∷ neg 4 ∷ neg 1 ∷ neg 24 ∷ neg 27 ∷ pos 1 ∷ neg 27 ∷ neg 4 ∷ neg 14 ∷ pos 15 ∷ neg 18 ∷ neg 8 ∷ pos 10 ∷ pos 3 ∷ pos 3 ∷ pos 34 ∷ neg 3 ∷ neg 3 ∷ pos 37 ∷ neg 6 ∷ neg 3 ∷ pos 6 ∷ pos 6 ∷ pos 3 ∷ neg 30 ∷ pos 5 ∷ pos 8 ∷ neg 26 ∷ pos 2 ∷ pos 3 ∷ neg 22 ∷ pos 0 ∷ neg 4 ∷ pos 0 ∷ pos 0 ∷ pos 4 ∷ pos 0 ∷ neg 1 ∷ pos 12 ∷ pos 1 ∷ pos 0 ∷ pos 16 ∷ pos 1 ∷ pos 0 ∷ pos 5 ∷ pos 1 ∷ pos 0 ∷ neg 4 ∷ pos 0 ∷ pos 0 ∷ neg 6 ∷ neg 3 ∷ pos 0 ∷ neg 7 ∷ pos 0 ∷ neg 1 ∷ neg 2 ∷ neg 2 ∷ neg 1 ∷ pos 5 ∷ pos 0 ∷ pos 0 ∷ pos 7 ∷ pos 0 ∷ pos 0 ∷ pos 8 ∷ neg 1 ∷ pos 0 ∷ pos 5 ∷ pos 1 ∷ pos 0 ∷ neg 3 ∷ []; nrp = pos 47; LARpp = neg 6554 ∷ pos 10650 ∷ neg 7372 ∷ pos 3276 ∷ neg 8630 ∷ pos 4916 ∷ pos 3276 ∷ pos 4148 ∷ []; v = neg 13 ∷ pos 7 ∷ pos 0 ∷ pos 0 ∷ pos 9 ∷ pos 5 ∷ neg 5 ∷ pos 8 ∷ []; msr = pos 10 }; samples = pos 280 ∷ pos 680 ∷ pos 648 ∷ pos 344 ∷ pos 200 ∷ pos 304 ∷ pos 408 ∷ pos 328 ∷ pos 72 ∷ neg 224 ∷ neg 304 ∷ neg 168 ∷ neg 144 ∷ neg 312 ∷ neg 464 ∷ neg 424 ∷ neg 224 ∷ neg 72 ∷ neg 32 ∷ neg 80 ∷ neg 64 ∷ pos 128 ∷ pos 336 ∷ pos 328 ∷ pos 264 ∷ pos 256 ∷ pos 256 ∷ pos 280 ∷ pos 296 ∷ pos 208 ∷ pos 8 ∷ neg 104 ∷ neg 40 ∷ neg 48 ∷ neg 168 ∷ neg 232 ∷ neg 256 ∷ neg 248 ∷ neg 160 ∷ neg 104 ∷ neg 168 ∷ neg 192 ∷ neg 80 ∷ pos 24 ∷ pos 40 ∷ pos 48 ∷ pos 56 ∷ pos 56 ∷ pos 112 ∷ pos 168 ∷ pos 128 ∷ pos 48 ∷ pos 40 ∷ pos 64 ∷ pos 48 ∷ pos 0 ∷ neg 32 ∷ neg 64 ∷ neg 56 ∷ neg 24 ∷ neg 40 ∷ neg 72 ∷ neg 72 ∷ neg 32 ∷ neg 8 ∷ pos 0 ∷ pos 16 ∷ pos 24 ∷ pos 24 ∷ pos 48 ∷ pos 72 ∷ pos 48 ∷ pos 24 ∷ pos 24 ∷ pos 24 ∷ pos 24 ∷ pos 8 ∷ neg 8 ∷ neg 40 ∷ neg 48 ∷ neg 16 ∷ pos 24 ∷ pos 408 ∷ pos 816 ∷ pos 680 ∷ pos 272 ∷ pos 216 ∷ pos 424 ∷ pos 480 ∷ pos 296 ∷ pos 8 ∷ neg 240 ∷ neg 304 ∷ neg 152 ∷ neg 136 ∷ neg 392 ∷ neg 560 ∷ neg 408 ∷ neg 192 ∷ neg 136 ∷ neg 168 ∷ neg 168 ∷ neg 112 ∷ pos 112 ∷ pos 312 ∷ pos 232 ∷ pos 136 ∷ pos 200 ∷ pos 264 ∷ pos 256 ∷ pos 232 ∷ pos 136 ∷ neg 32 ∷ neg 80 ∷ pos 32 ∷ neg 8 ∷ neg 192 ∷ neg 224 ∷ neg 184 ∷ neg 176 ∷ neg 136 ∷ neg 104 ∷ neg 152 ∷ neg 144 ∷ neg 24 ∷ pos 48 ∷ pos 40 ∷ pos 48 ∷ pos 56 ∷ pos 88 ∷ pos 152 ∷ pos 152 ∷ pos 96 ∷ pos 64 ∷ pos 72 ∷ pos 72 ∷ pos 48 ∷ pos 16 ∷ neg 24 ∷ neg 56 ∷ neg 40 ∷ neg 32 ∷ neg 64 ∷ neg 88 ∷ neg 80 ∷ neg 56 ∷ neg 40 ∷ neg 16 ∷ neg 8 ∷ neg 16 ∷ pos 8 ∷ pos 48 ∷ pos 48 ∷ pos 40 ∷ pos 56 ∷ pos 48 ∷ pos 40 ∷ pos 56 ∷ pos 48 ∷ pos 16 ∷ [] }
unfolding opened
e32_speechlike_10 = refl
