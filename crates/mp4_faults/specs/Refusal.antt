-- Why a payload is refused as that of a box (ISO/IEC 14496-12, 4.2): each box says so itself.
use Rattle.std.specs.Prelude.{◌≡◌, ℕ, List, Option, None, option_map, Result, Ok, Err}
use Rattle.mp4_codec.specs.declared.box_type.BoxType.{BoxType}
use Rattle.mp4_codec.specs.declared.box_type.BoxType.TheVariants.{FtypBox, MoovBox, MvhdBox, TrakBox, TkhdBox}
use Rattle.mp4_codec.specs.declared.box_type.BoxType.TheVariants.{EdtsBox, ElstBox, MdiaBox, MdhdBox, HdlrBox}
use Rattle.mp4_codec.specs.declared.box_type.BoxType.TheVariants.{MinfBox, VmhdBox, SmhdBox, DinfBox, DrefBox, UrlBox}
use Rattle.mp4_codec.specs.declared.box_type.BoxType.TheVariants.{StblBox, StsdBox, SttsBox, CttsBox, StssBox}
use Rattle.mp4_codec.specs.declared.box_type.BoxType.TheVariants.{StscBox, StszBox, StcoBox, Co64Box, Avc1Box}
use Rattle.mp4_codec.specs.declared.box_type.BoxType.TheVariants.{AvcCBox, Hev1Box, HvcCBox, Vp09Box, VpccBox}
use Rattle.mp4_codec.specs.declared.box_type.BoxType.TheVariants.{Mp4aBox, EsdsBox, Tx3gBox, MvexBox, MehdBox}
use Rattle.mp4_codec.specs.declared.box_type.BoxType.TheVariants.{TrexBox, EmsgBox, MoofBox, MfhdBox, TrafBox}
use Rattle.mp4_codec.specs.declared.box_type.BoxType.TheVariants.{TfhdBox, TfdtBox, TrunBox, UdtaBox, MetaBox}
use Rattle.mp4_codec.specs.declared.box_type.BoxType.TheVariants.{IlstBox, NameBox, DayBox, CovrBox, DescBox, DataBox}
use Rattle.mp4_codec.specs.declared.error.Error.{Error}
use Rattle.mp4_codec.specs.declared.error.Error.TheVariants.{OutOfMemory}
use Rattle.mp4_codec.specs.Cause.{Cause, cause_of, fault_of}
use Rattle.mp4_leaf.specs.Ftyp.{ftyp_of}
use Rattle.mp4_boxes.specs.Moov.{moov_of}
use Rattle.mp4_leaf.specs.Mvhd.{mvhd_of}
use Rattle.mp4_boxes.specs.Trak.{trak_of}
use Rattle.mp4_leaf.specs.Tkhd.{tkhd_of}
use Rattle.mp4_boxes.specs.Edts.{edts_of}
use Rattle.mp4_leaf.specs.Elst.{elst_of}
use Rattle.mp4_boxes.specs.Mdia.{mdia_of}
use Rattle.mp4_leaf.specs.Mdhd.{mdhd_of}
use Rattle.mp4_leaf.specs.Hdlr.{hdlr_of}
use Rattle.mp4_boxes.specs.Minf.{minf_of}
use Rattle.mp4_leaf.specs.Vmhd.{vmhd_of}
use Rattle.mp4_leaf.specs.Smhd.{smhd_of}
use Rattle.mp4_leaf.specs.Dinf.{dinf_of, dref_of, url_of}
use Rattle.mp4_boxes.specs.Stbl.{stbl_of}
use Rattle.mp4_entry.specs.Stsd.{stsd_of}
use Rattle.mp4_table.specs.Stts.{stts_of}
use Rattle.mp4_table.specs.Ctts.{ctts_of}
use Rattle.mp4_table.specs.Stss.{stss_of}
use Rattle.mp4_table.specs.Stsc.{stsc_of}
use Rattle.mp4_table.specs.Stsz.{stsz_of}
use Rattle.mp4_table.specs.Stco.{stco_of}
use Rattle.mp4_table.specs.Co64.{co64_of}
use Rattle.mp4_entry.specs.Avc1.{avc1_of}
use Rattle.mp4_entry.specs.Avcc.{avcc_of}
use Rattle.mp4_entry.specs.Hev1.{hev1_of}
use Rattle.mp4_entry.specs.Hvcc.{hvcc_of}
use Rattle.mp4_entry.specs.Vp09.{vp09_of}
use Rattle.mp4_entry.specs.Vpcc.{vpcc_of}
use Rattle.mp4_entry.specs.Mp4a.{mp4a_of}
use Rattle.mp4_entry.specs.Esds.{esds_of}
use Rattle.mp4_entry.specs.Tx3g.{tx3g_of}
use Rattle.mp4_moof.specs.Mvex.{mvex_of}
use Rattle.mp4_moof.specs.Mehd.{mehd_of}
use Rattle.mp4_moof.specs.Trex.{trex_of}
use Rattle.mp4_moof.specs.Emsg.{emsg_of}
use Rattle.mp4_moof.specs.Moof.{moof_of}
use Rattle.mp4_moof.specs.Mfhd.{mfhd_of}
use Rattle.mp4_moof.specs.Traf.{traf_of}
use Rattle.mp4_moof.specs.Tfhd.{tfhd_of}
use Rattle.mp4_moof.specs.Tfdt.{tfdt_of}
use Rattle.mp4_moof.specs.Trun.{trun_of}
use Rattle.mp4_meta.specs.Udta.{udta_of}
use Rattle.mp4_meta.specs.Meta.{meta_of}
use Rattle.mp4_meta.specs.Ilst.{ilst_of, item_of}
use Rattle.mp4_leaf.specs.Data.{data_of}

-- Why a payload is refused as that of a box of a fragment or of metadata. A type that isn't read refuses nothing.
unfoldable pub other_fault : BoxType → List ℕ → Option Cause
other_fault MvexBox payload = fault_of (mvex_of payload)
other_fault MehdBox payload = fault_of (mehd_of payload)
other_fault TrexBox payload = fault_of (trex_of payload)
other_fault EmsgBox payload = fault_of (emsg_of payload)
other_fault MoofBox payload = fault_of (moof_of payload)
other_fault MfhdBox payload = fault_of (mfhd_of payload)
other_fault TrafBox payload = fault_of (traf_of payload)
other_fault TfhdBox payload = fault_of (tfhd_of payload)
other_fault TfdtBox payload = fault_of (tfdt_of payload)
other_fault TrunBox payload = fault_of (trun_of payload)
other_fault UdtaBox payload = fault_of (udta_of payload)
other_fault MetaBox payload = fault_of (meta_of payload)
other_fault IlstBox payload = fault_of (ilst_of payload)
other_fault NameBox payload = fault_of (item_of payload)
other_fault DayBox payload = fault_of (item_of payload)
other_fault CovrBox payload = fault_of (item_of payload)
other_fault DescBox payload = fault_of (item_of payload)
other_fault DataBox payload = fault_of (data_of payload)
other_fault other payload = None

-- the same of the boxes of a sample table and of its sample entries, and those of fragments and metadata
unfoldable pub table_fault : BoxType → List ℕ → Option Cause
table_fault StblBox payload = fault_of (stbl_of payload)
table_fault StsdBox payload = fault_of (stsd_of payload)
table_fault SttsBox payload = fault_of (stts_of payload)
table_fault CttsBox payload = fault_of (ctts_of payload)
table_fault StssBox payload = fault_of (stss_of payload)
table_fault StscBox payload = fault_of (stsc_of payload)
table_fault StszBox payload = fault_of (stsz_of payload)
table_fault StcoBox payload = fault_of (stco_of payload)
table_fault Co64Box payload = fault_of (co64_of payload)
table_fault Avc1Box payload = fault_of (avc1_of payload)
table_fault AvcCBox payload = fault_of (avcc_of payload)
table_fault Hev1Box payload = fault_of (hev1_of payload)
table_fault HvcCBox payload = fault_of (hvcc_of payload)
table_fault Vp09Box payload = fault_of (vp09_of payload)
table_fault VpccBox payload = fault_of (vpcc_of payload)
table_fault Mp4aBox payload = fault_of (mp4a_of payload)
table_fault EsdsBox payload = fault_of (esds_of payload)
table_fault Tx3gBox payload = fault_of (tx3g_of payload)
table_fault other payload = other_fault other payload

-- why a payload is refused as that of a box of this type: of a movie, its tracks and their media, and all others
unfoldable pub payload_fault : BoxType → List ℕ → Option Cause
payload_fault FtypBox payload = fault_of (ftyp_of payload)
payload_fault MoovBox payload = fault_of (moov_of payload)
payload_fault MvhdBox payload = fault_of (mvhd_of payload)
payload_fault TrakBox payload = fault_of (trak_of payload)
payload_fault TkhdBox payload = fault_of (tkhd_of payload)
payload_fault EdtsBox payload = fault_of (edts_of payload)
payload_fault ElstBox payload = fault_of (elst_of payload)
payload_fault MdiaBox payload = fault_of (mdia_of payload)
payload_fault MdhdBox payload = fault_of (mdhd_of payload)
payload_fault HdlrBox payload = fault_of (hdlr_of payload)
payload_fault MinfBox payload = fault_of (minf_of payload)
payload_fault VmhdBox payload = fault_of (vmhd_of payload)
payload_fault SmhdBox payload = fault_of (smhd_of payload)
payload_fault DinfBox payload = fault_of (dinf_of payload)
payload_fault DrefBox payload = fault_of (dref_of payload)
payload_fault UrlBox payload = fault_of (url_of payload)
payload_fault other payload = table_fault other payload

-- What a call says of a payload is why it is refused, if it is; or memory ran out.
abbrev pub TellsFault : Result (Option Error) Error → Option Cause → Type 0
TellsFault (Ok told) fault = option_map cause_of told ≡ fault
TellsFault (Err e) fault = e ≡ OutOfMemory
