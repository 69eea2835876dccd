mod FirstFault
